-- Diagnoses are right: what is found of reads that miss nothing is an order that explains them, and of other reads no order does.
use Rattle.std.proofs.Common.{◌≡◌, ◌≢◌, ℕ, ◌<◌, ◌++◌, ◌&&◌, ◌==◌, Bool, true, false, List, [], ◌∷◌, All, AllPairs, Contains, append_assoc, refl, sym, ap, ◌∙◌, subst, inl, inr, arith}
use Rattle.std.specs.Prelude.{Option, Some, None, slice_get, map, nat_lt}
use Rattle.std.specs.Option.{option_map_or}
use Rattle.std.proofs.lemmas.Bool.{and_parts, cases_Bool, ltb-false}
use Rattle.std.proofs.lemmas.List.Elements.{All-cons, All-nil, Contains-append_cases, Contains-append_right}
use Rattle.std.proofs.lemmas.Option.{slice_get_within}
use Rattle.anti_ids.specs.Ids.{has_id}
use Rattle.anti_kind.specs.declared.actor.Actor.TheVariants.{Process}
use Rattle.anti_kind.specs.declared.actor.Birth.{Birth}
use Rattle.anti_kind.specs.declared.entry.Entry.{Entry}
use Rattle.anti_kind.proofs.Finding.{filter_contains}
use Rattle.anti_app.specs.declared.app.App.{App}
use Rattle.anti_trace.specs.Legal.{IsLegalTrace}
use Rattle.anti_trace.specs.Traces.{is_by}
use Rattle.law_causal.specs.Words as words
use Rattle.law_causal.specs.Causal.{Before}
use Rattle.law_causal.specs.Reads.{is_at, is_read_of, places, reads_of}
use Rattle.law_causal.proofs.Facts.{Facts}
use Rattle.law_causal.proofs.Keyed.{keyed}
use Rattle.law_causal.proofs.Known.{forward}
use Rattle.law_causal.proofs.Lists.{cut_of}
use Rattle.law_serial.specs.Causes.{TellsCauses}
use Rattle.law_serial.specs.Chains.{AreReads, MissesNothing, OrdersByCausesAreSerial}
use Rattle.law_serial.specs.Order.{order_by}
use Rattle.law_serial.specs.Serial.{IsLastWrite, IsSerial, IsWrittenAmong, id_of, version_shown}
use Rattle.law_serial.proofs.Cuts.{front_or_rest, in_front, in_none, in_rest, pairs_across}
use Rattle.law_serial.proofs.Pasts.{there_writes}
use Rattle.anti_order.specs.Answers.{mark_at}
use Rattle.anti_doctor.specs.Diagnoses.{AreFindingsOf, IsMissed}
use Rattle.anti_doctor.specs.Laws.{ChainsAreDecided}
use Rattle.anti_doctor.specs.Missed.{AreMissed, AreMissedAt, MissesMost, Pair, misses}
use Rattle.anti_doctor.specs.declared.diagnosis.Diagnosis.TheVariants.{Misses, Sound}
use Rattle.anti_doctor.specs.declared.diagnosis.Finding.{Finding}
use Rattle.anti_doctor.proofs.Misses.{IsIdAt, IsMiss, miss, missed}
use Rattle.anti_doctor.proofs.Most.{most}
use Rattle.anti_doctor.proofs.Pairs.{IsMost, each_most, none_at}

-- ---- the reads of a span

pub are_reads : (trace : List Entry) (birth : Birth) (span : ℕ) → AreReads trace (reads_of trace birth span)
are_reads trace birth span r among =
    by_found (slice_get trace r) ((filter_contains (is_at (is_read_of birth span) trace) (places trace) r).0 among).1
  where
    by_found : (found : Option Entry) → option_map_or (is_read_of birth span) found false ≡ true
        → option_map_or (λ e. words.reads e.call) found false ≡ true
    by_found None passes = absurd (cc)
    by_found (Some e) passes = (and_parts (words.reads e.call) (is_by (Process birth) e && e.span == span) passes).0

-- ---- findings

-- Where a write was missed there is a finding.
some_findings : (trace : List Entry) (ps : List Pair) (fs : List Finding) → AreFindingsOf trace ps fs → ps ≢ [] → fs ≢ []
some_findings trace [] fs marked some none = some refl
some_findings trace (p ∷ ps) [] (read, write) some none = absurd (cc)
some_findings trace (p ∷ ps) (f ∷ fs) marked some none = absurd (cc)

module _ (app : App) (trace : List Entry) (legal : IsLegalTrace app trace) (facts : Facts app trace) where
  -- ---- no order explains a read that misses a write

  module _ (reads order : List ℕ) (serial : IsSerial trace reads order) (r i : ℕ) (among : Contains reads r) (m : IsMiss trace r i) where
    abbrev stands : IsIdAt trace i m.id
    stands = m.stands

    in_order : Contains order i
    in_order = (serial.members i).1 (inl (there_writes trace i stands.entry m.id stands.there stands.wrote))

    module _ (before after : List ℕ) (cut : order ≡ before ++ r ∷ after) where
      -- the missed write stands before the read,
      is_early : Contains before i
      is_early = serial.respects before r after cut i in_order m.before

      among_early : (rest : List ℕ) → Contains rest i → IsWrittenAmong trace rest (id_of m.entry.object m.id.key m.id.version)
      among_early rest in' = record {
        place = i;
        entry = stands.entry;
        in_list = in';
        there = stands.there;
        wrote = ap (λ (o : ℕ). has_id (id_of o m.id.key m.id.version) (words.wrote stands.entry)) (sym m.store) ∙ stands.wrote;
      }

      -- so the last write to its key before the read is of its version or a greater one; but what the read shows is less.
      module _ (l : IsLastWrite trace before m.entry.object m.id.key (version_shown m.entry.reply m.id.key)) where
        shown_first : Before trace l.place i
        shown_first =
            keyed app trace legal l.place i l.entry stands.entry (id_of m.entry.object m.id.key (version_shown m.entry.reply m.id.key)) m.id
            l.there stands.there l.wrote stands.wrote (sym m.store) refl m.newer

        not_in_front : Contains l.front i → ⊥
        not_in_front in' =
            let at = cut_of l.front i in' in
            let whole : order ≡ at.0 ++ i ∷ (at.1 ++ l.place ∷ (l.rest ++ r ∷ after)) =
            cut ∙ ap (λ (xs : List ℕ). xs ++ r ∷ after) l.cut ∙ append_assoc l.front (l.place ∷ l.rest) (r ∷ after)
            ∙ ap (λ (xs : List ℕ). xs ++ l.place ∷ (l.rest ++ r ∷ after)) at.2
            ∙ append_assoc at.0 (i ∷ at.1) (l.place ∷ (l.rest ++ r ∷ after)) in
            let behind : Contains (i ∷ (at.1 ++ l.place ∷ (l.rest ++ r ∷ after))) l.place =
            in_rest i (at.1 ++ l.place ∷ (l.rest ++ r ∷ after)) l.place
            (Contains-append_right at.1 (l.place ∷ (l.rest ++ r ∷ after)) l.place (in_front l.place (l.rest ++ r ∷ after))) in
            let inside : Contains order l.place =
            subst (λ (xs : List ℕ). Contains xs l.place) (sym whole)
            (Contains-append_right at.0 (i ∷ (at.1 ++ l.place ∷ (l.rest ++ r ∷ after))) l.place behind) in
            let early : Contains at.0 l.place =
            serial.respects at.0 i (at.1 ++ l.place ∷ (l.rest ++ r ∷ after)) whole l.place inside shown_first in
            let apart : AllPairs (λ x y. x ≢ y) (at.0 ++ i ∷ (at.1 ++ l.place ∷ (l.rest ++ r ∷ after))) =
            subst (AllPairs (λ x y. x ≢ y)) whole serial.once in
            pairs_across (λ x y. x ≢ y) at.0 (i ∷ (at.1 ++ l.place ∷ (l.rest ++ r ∷ after))) apart l.place l.place early behind refl

        not_last : ⊥
        not_last =
            elim (Contains-append_cases l.front (l.place ∷ l.rest) i (subst (λ (xs : List ℕ). Contains xs i) l.cut is_early)) [
              | inl front ↦ not_in_front front
              | inr rest ↦ elim (front_or_rest l.place l.rest i rest) [
                | inl same ↦ let low : l.place < i = forward app trace facts shown_first in absurd (omega (arith, low, same))
                | inr later ↦ l.none_later m.id.version (among_early l.rest later)
              ]
            ]

      not_explained : ⊥
      not_explained =
          elim (serial.explains before r after cut among m.entry m.there m.id.key m.spoken) [
            | inl none ↦ none.1 m.id.version (among_early before is_early)
            | inr last ↦ not_last last
          ]

    pub never_serial : ⊥
    never_serial =
        let at = cut_of order r ((serial.members r).1 (inr among)) in not_explained at.0 at.1 at.2

  module _ (reads : List ℕ) (past : ℕ → ℕ → Bool) (tells : TellsCauses trace reads past) where
    -- ---- nothing was missed

    nothing : AreMissed trace past reads [] [] → (r : ℕ) (b : Entry) → Contains reads r → slice_get trace r ≡ Some b
        → MissesNothing trace r b
    nothing none r b among at_r i a w at_i has before own spoken =
        elim (cases_Bool (nat_lt (version_shown b.reply w.key) w.version)) [
          | inl newer ↦
              let its : misses trace past r i ≡ true =
              missed trace reads past tells r among i b a w at_r at_i has before own spoken newer in
              let found = most app trace legal facts past r i (slice_get_within trace i a at_i) its in
              let at : AreMissedAt trace past r [] = none_at trace past reads none r among in
              in_none found.0 ((at.just found.0).1 found.1)
          | inr not_newer ↦ ltb-false (version_shown b.reply w.key) w.version not_newer
        ]

    -- ---- what was missed

    its_miss : (p : Pair) → IsMost trace past reads p → IsMiss trace p.read p.write
    its_miss p its =
        let m : MissesMost trace past p.read p.write = its.most in
        miss trace reads past tells p.read its.among p.write m.missed

    one_finding : (p : Pair) (f : Finding) → IsMost trace past reads p → mark_at trace p.read ≡ Some f.read
        → mark_at trace p.write ≡ Some f.write → IsMissed trace reads f
    one_finding p f its read_marked write_marked =
        let m : IsMiss trace p.read p.write = its_miss p its in
        let at : IsIdAt trace p.write m.id = m.stands in
        record {
          read = p.read;
          among = its.among;
          entry = m.entry;
          there = m.there;
          read_marked = read_marked;
          write = p.write;
          written = at.entry;
          stands = at.there;
          write_marked = write_marked;
          before = m.before;
          id = m.id;
          wrote = at.wrote;
          store = m.store;
          spoken = m.spoken;
          newer = m.newer;
        }

    all_findings : (ps : List Pair) (fs : List Finding) → AreFindingsOf trace ps fs
        → ((p : Pair) → Contains ps p → IsMost trace past reads p) → All (IsMissed trace reads) fs
    all_findings [] [] marked each = All-nil (IsMissed trace reads)
    all_findings [] (f ∷ fs) (read, write) each = absurd (cc)
    all_findings (p ∷ ps) [] (read, write) each = absurd (cc)
    all_findings (p ∷ ps) (f ∷ fs) (read, write) each =
        let read_marked : mark_at trace p.read ≡ Some f.read = cc in
        let write_marked : mark_at trace p.write ≡ Some f.write = cc in
        let reads_rest : map (λ p. mark_at trace p.read) ps ≡ map (λ f. Some f.read) fs = cc in
        let writes_rest : map (λ p. mark_at trace p.write) ps ≡ map (λ f. Some f.write) fs = cc in
        All-cons (IsMissed trace reads) f fs (one_finding p f (each p (in_front p ps)) read_marked write_marked)
        (all_findings ps fs (reads_rest, writes_rest) (λ q in'. each q (in_rest p ps q in')))

    -- Where a write was missed, no order explains the reads.
    none_serial : (ps : List Pair) → ps ≢ [] → ((p : Pair) → Contains ps p → IsMost trace past reads p) → (order : List ℕ)
        → IsSerial trace reads order → ⊥
    none_serial [] some each order serial = some refl
    none_serial (p ∷ ps) some each order serial =
        let its : IsMost trace past reads p = each p (in_front p ps) in
        never_serial reads order serial p.read p.write its.among (its_miss p its)

  pub chains_are_decided : OrdersByCausesAreSerial trace → ChainsAreDecided trace
  chains_are_decided serial reads (Sound marks) are chain d =
      let none : AreMissed trace d.past reads [] [] = subst (AreMissed trace d.past reads []) d.found.0 d.misses in
      record {
        order = order_by trace d.past reads;
        marked = d.found.1;
        serial = serial reads d.past are chain d.tells (nothing reads d.past d.tells none);
      }
  chains_are_decided serial reads (Misses findings) are chain d =
      let each : (p : Pair) → Contains d.missed p → IsMost trace d.past reads p = each_most trace d.past reads [] d.missed d.misses in (
        some_findings trace d.missed findings.items d.found.1 d.found.0,
        all_findings reads d.past d.tells d.missed findings.items d.found.1 each,
        none_serial reads d.past d.tells d.missed d.found.0 each,
      )
