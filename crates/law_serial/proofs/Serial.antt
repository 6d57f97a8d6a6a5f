-- The order of settled reads, of which each is causally before the next, is serial.
use Rattle.std.proofs.Common.{◌≡◌, ℕ, true, List, Contains, ◌∙◌, subst}
use Rattle.std.specs.Prelude.{Some, slice_get}
use Rattle.anti_kind.specs.declared.entry.Entry.{Entry}
use Rattle.anti_app.specs.declared.app.App.{App}
use Rattle.anti_trace.specs.Legal.{IsLegalTrace}
use Rattle.law_causal.specs.Words.{reads}
use Rattle.law_causal.specs.Carried.{IsLossless}
use Rattle.law_causal.specs.Settled.{IsSettled}
use Rattle.law_causal.proofs.Facts.{Facts}
use Rattle.law_causal.proofs.Lists.{same_at}
use Rattle.law_serial.specs.Causes.{IsChain, TellsCauses}
use Rattle.law_serial.specs.Chains.{AreReads, MissesNothing}
use Rattle.law_serial.specs.Order.{is_in_past, order_of}
use Rattle.law_serial.specs.Serial.{IsSerial, IsSettledRead}
use Rattle.law_serial.proofs.Explained.{explained}
use Rattle.law_serial.proofs.Missed.{nothing_missed}
use Rattle.law_serial.proofs.Pasts.{is_at_there, past_decides}

module _ (app : App) (trace : List Entry) (legal : IsLegalTrace app trace) (facts : Facts app trace) (lossless : IsLossless app trace)
    (rs : List ℕ) (settled : (r : ℕ) → Contains rs r → IsSettledRead app trace r) (chain : IsChain trace rs) where
  are_reads : AreReads trace rs
  are_reads r in' =
      let s : IsSettledRead app trace r = settled r in' in is_at_there (λ e. reads e.call) trace r s.entry s.there ∙ s.read

  tells : TellsCauses trace rs (is_in_past app trace)
  tells r in' i writes =
      let s : IsSettledRead app trace r = settled r in' in
      past_decides app trace facts lossless r i s.entry s.there s.read writes

  misses_nothing : (r : ℕ) (b : Entry) → Contains rs r → slice_get trace r ≡ Some b → MissesNothing trace r b
  misses_nothing r b in' at =
      let s : IsSettledRead app trace r = settled r in' in
      let (is_read, its) = subst (λ (e : Entry). (reads e.call ≡ true) × IsSettled app trace r e) (same_at trace r s.entry b s.there at)
      (s.read, s.settled) in
      nothing_missed app trace legal facts lossless r b at is_read its

  pub serial : IsSerial trace rs (order_of app trace rs)
  serial = explained app trace legal facts rs (is_in_past app trace) are_reads chain tells misses_nothing
