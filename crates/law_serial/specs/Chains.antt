-- Laws of settled reads, and of orders of reads of which each is causally before the next.
use Rattle.std.specs.Prelude.{ℕ, ◌≡◌, ◌≤◌, Bool, true, List, Some, slice_get, Contains}
use Rattle.anti_ids.specs.Ids.{has_id}
use Rattle.anti_ids.specs.declared.id.WriteId.{WriteId}
use Rattle.anti_kind.specs.declared.entry.Entry.{Entry}
use Rattle.anti_kind.specs.Replies.{speaks_of}
use Rattle.anti_app.specs.declared.app.App.{App}
use Rattle.law_causal.specs.Words as words
use Rattle.law_causal.specs.Words.{wrote}
use Rattle.law_causal.specs.Causal.{Before}
use Rattle.law_causal.specs.Reads.{is_at}
use Rattle.law_causal.specs.Settled.{IsSettled}
use Rattle.law_serial.specs.Causes.{IsChain, TellsCauses}
use Rattle.law_serial.specs.Serial.{version_shown, IsSettledRead, IsSerial}
use Rattle.law_serial.specs.Order.{order_by, order_of}

-- The read b, at place j, shows, of each key that it speaks of, no version below that of a write which is causally before it.
abbrev pub MissesNothing : List Entry → ℕ → Entry → Type 0
MissesNothing trace j b =
    (i : ℕ) (a : Entry) (w : WriteId) → slice_get trace i ≡ Some a → has_id w (wrote a) ≡ true → Before trace i j
    → w.store ≡ b.object → speaks_of w.key b.call ≡ true → w.version ≤ version_shown b.reply w.key

-- A settled read misses nothing.
abbrev pub NothingMissed : App → List Entry → Type 0
NothingMissed app trace =
    (j : ℕ) (b : Entry) → slice_get trace j ≡ Some b → words.reads b.call ≡ true → IsSettled app trace j b → MissesNothing trace j b

-- The order of settled reads, of which each is causally before the next, respects the causal order and explains what they show.
abbrev pub OrdersAreSerial : App → List Entry → Type 0
OrdersAreSerial app trace =
    (reads : List ℕ) → ((r : ℕ) → Contains reads r → IsSettledRead app trace r) → IsChain trace reads
    → IsSerial trace reads (order_of app trace reads)

-- reads stand at these places
abbrev pub AreReads : List Entry → List ℕ → Type 0
AreReads trace reads = (r : ℕ) → Contains reads r → is_at (λ e. words.reads e.call) trace r ≡ true

-- The order of reads that miss nothing, of which each is causally before the next, by a test that tells what is causally before them,
-- respects the causal order and explains what they show.
abbrev pub OrdersByCausesAreSerial : List Entry → Type 0
OrdersByCausesAreSerial trace =
    (reads : List ℕ) (past : ℕ → ℕ → Bool) → AreReads trace reads → IsChain trace reads → TellsCauses trace reads past
    → ((r : ℕ) (b : Entry) → Contains reads r → slice_get trace r ≡ Some b → MissesNothing trace r b)
    → IsSerial trace reads (order_by trace past reads)
