-- What it means for reads to miss nothing, and that no span missed anything where each diagnosis is a sound one.
use Rattle.std.proofs.Common.{◌≡◌, ℕ, ◌<◌, ◌++◌, Bool, true, false, List, [], ◌∷◌, length, get_or, map, refl, sym, ap, ◌∙◌, subst, arith, append-nil, append_assoc}
use Rattle.std.specs.Prelude.{All, Contains, Option, None, Some, IfNone, unwrap_or}
use Rattle.std.proofs.lemmas.List.{get_or-map, length-map}
use Rattle.std.proofs.lemmas.List.Elements.{All-cons, All-contains, All-nil, All-pop, Contains-append_right}
use Rattle.std.proofs.lemmas.List.Folds.{list_any_at}
use Rattle.std.proofs.lemmas.Option.{slice_get_within, unwrap_or-slice_get}
use Rattle.anti_kind.specs.declared.actor.Birth.{Birth}
use Rattle.anti_kind.specs.declared.entry.Entry.{Entry}
use Rattle.anti_kind.proofs.Finding.{filter_contains}
use Rattle.law_causal.specs.Reads.{is_at, is_read_of, places, reads_of}
use Rattle.law_serial.specs.Serial.{IsSerial}
use Rattle.anti_app.specs.declared.app.App.{App}
use Rattle.anti_order.proofs.Places.{at_place}
use Rattle.anti_order.specs.Answers.{IsAnswer}
use Rattle.anti_order.specs.declared.answer.OrderAnswer.{OrderAnswer}
use Rattle.anti_order.specs.declared.answer.OrderAnswer.TheVariants.{Lossy, Unguarded, Order}
use Rattle.anti_order.specs.declared.answer.SpanAnswer.{SpanAnswer}
use Rattle.anti_past.specs.declared.span_reads.Span.{Span}
use Rattle.anti_past.specs.Spans.{has_read}
use Rattle.anti_doctor.specs.Diagnoses.{AreDiagnosesOf, IsDiagnosis, IsMissed, IsRight, SpansAreDecided}
use Rattle.anti_doctor.specs.declared.diagnosis.Diagnosis.{Diagnosis}
use Rattle.anti_doctor.specs.declared.diagnosis.Diagnosis.TheVariants.{Sound, Misses}
use Rattle.anti_doctor.specs.declared.diagnosis.Finding.{Finding}
use Rattle.anti_doctor.specs.declared.diagnosis.SpanDiagnosis.{SpanDiagnosis}
use Rattle.anti_adversary.specs.Runs.{MissesNothing}
use Rattle.anti_adversary.specs.Verdicts.{IsBarred, IsMiss}
use Rattle.anti_adversary.specs.inner.Examining.{HasExamined, HasSifted, is_barred, is_miss}

-- a span has the reads that are found in it
span_read : (trace : List Entry) (birth : Birth) (span read : ℕ) → Contains (reads_of trace birth span) read
    → has_read trace (record { birth = birth; span = span }) ≡ true
span_read trace birth span read among =
    let test : Entry → Bool = is_read_of birth span in
    let passes : is_at test trace read ≡ true = ((filter_contains (is_at test trace) (places trace) read).0 among).1 in
    let (e, at, is) = at_place test trace read passes in
    let here : get_or trace read e ≡ e = sym (unwrap_or-slice_get trace read e) ∙ ap (λ (o : Option Entry). unwrap_or o e) at in
    list_any_at test trace read e (slice_get_within trace read e at) (ap test here ∙ is)

-- some finding is of a read
one_missed : (trace : List Entry) (reads : List ℕ) (findings : List Finding) → (findings ≡ [] → ⊥) → All (IsMissed trace reads) findings
    → (f : Finding) × IsMissed trace reads f
one_missed trace reads [] some each = absurd (some refl)
one_missed trace reads (f ∷ findings) some each = (f, each 0 f (omega arith))

-- a sound diagnosis tells an order, so one is there
no_order : (trace : List Entry) (reads : List ℕ) (d : Diagnosis) → is_miss d ≡ false → IsRight trace reads d
    → ((order : List ℕ) → IsSerial trace reads order → ⊥) → ⊥
no_order trace reads (Sound marks) sound right none = none right.order right.serial
no_order trace reads (Misses findings) sound right none = absurd (cc)

pub nothing_missed : (trace : List Entry) (diagnoses : List SpanDiagnosis) → SpansAreDecided trace → AreDiagnosesOf trace diagnoses
    → All (λ d. is_miss d.diagnosis ≡ false) diagnoses → MissesNothing trace
nothing_missed trace diagnoses decided are sound birth span findings is =
    let reads : List ℕ = reads_of trace birth span in
    let right : IsRight trace reads (Misses findings) = decided birth span (Misses findings) is in
    let first : (f : Finding) × IsMissed trace reads f = one_missed trace reads findings.items right.0 right.1 in
    let s : Span = record { birth = birth; span = span } in
    let among : Contains (map (λ (d : SpanDiagnosis). d.span) diagnoses) s =
    (are.spans.just s).1 (span_read trace birth span first.1.read first.1.among) in
    let d : SpanDiagnosis = record { span = s; diagnosis = Misses findings } in
    let found : SpanDiagnosis = get_or diagnoses among.0 d in
    let within : among.0 < length diagnoses = omega (arith, among.1, length-map diagnoses (λ (x : SpanDiagnosis). x.span)) in
    let same : found.span ≡ s = sym (get_or-map (λ (x : SpanDiagnosis). x.span) diagnoses among.0 d s within) ∙ among.2 in
    no_order trace reads found.diagnosis (sound among.0 d within)
    (subst (λ (x : Span). IsRight trace (reads_of trace x.birth x.span) found.diagnosis) same
    (decided found.span.birth found.span.span found.diagnosis (are.diagnosed among.0 d within)))
    right.2

-- ---- the last of the diagnoses

-- one that missed something
is_missed : (trace : List Entry) (d : SpanDiagnosis) → is_miss d.diagnosis ≡ true → IsDiagnosis trace (reads_of trace d.span.birth d.span.span) d.diagnosis
    → IsMiss trace d
is_missed trace d missed diagnosed = by_diagnosis d.diagnosis refl missed
  where
    by_diagnosis : (found : Diagnosis) → d.diagnosis ≡ found → is_miss found ≡ true → IsMiss trace d
    by_diagnosis (Sound marks) is missed = absurd (cc)
    by_diagnosis (Misses findings) is missed = record { findings = findings; misses = is; diagnosed = diagnosed }

pub examined_none : (trace : List Entry) (diagnoses : List SpanDiagnosis) → AreDiagnosesOf trace diagnoses → HasExamined trace diagnoses None
examined_none trace diagnoses are = record {
  others = [];
  all = subst (AreDiagnosesOf trace) (sym (append-nil diagnoses)) are;
  missed = tt;
  nothing = λ _. All-nil (λ d. is_miss d.diagnosis ≡ false);
}

module _ (trace : List Entry) (left now : List SpanDiagnosis) (first : Option SpanDiagnosis) (d : SpanDiagnosis) (taken : left ≡ now ++ d ∷ [])
    (has : HasExamined trace left first) where
  cut : left ++ has.others ≡ now ++ d ∷ has.others
  cut = ap (λ (ds : List SpanDiagnosis). ds ++ has.others) taken ∙ append_assoc now (d ∷ []) has.others

  all_of : AreDiagnosesOf trace (now ++ d ∷ has.others)
  all_of = subst (AreDiagnosesOf trace) cut has.all

  diagnosed : IsDiagnosis trace (reads_of trace d.span.birth d.span.span) d.diagnosis
  diagnosed =
      All-contains (λ x. IsDiagnosis trace (reads_of trace x.span.birth x.span.span) x.diagnosis) (now ++ d ∷ has.others) d all_of.diagnosed
      (Contains-append_right now (d ∷ has.others) d (0, omega arith, refl))

  pub examined_miss : is_miss d.diagnosis ≡ true → HasExamined trace now (Some d)
  examined_miss missed = record {
    others = d ∷ has.others;
    all = all_of;
    missed = is_missed trace d missed diagnosed;
    nothing = λ none. absurd (cc);
  }

  pub examined_sound : is_miss d.diagnosis ≡ false → HasExamined trace now first
  examined_sound sound = record {
    others = d ∷ has.others;
    all = all_of;
    missed = has.missed;
    nothing = λ none. All-cons (λ x. is_miss x.diagnosis ≡ false) d has.others sound (has.nothing none);
  }

-- all were gone through
pub examined_all : (trace : List Entry) (left : List SpanDiagnosis) (first : Option SpanDiagnosis) → SpansAreDecided trace
    → HasExamined trace left first → left ≡ [] → IfNone first (MissesNothing trace)
examined_all trace left None decided has none =
    nothing_missed trace has.others decided (subst (λ (ds : List SpanDiagnosis). AreDiagnosesOf trace (ds ++ has.others)) none has.all) (has.nothing refl)
examined_all trace left (Some d) decided has none = tt

-- ---- the last of the answers

barred_of : (answer : OrderAnswer) → is_barred answer ≡ true → IsBarred answer
barred_of (Lossy mark) is = tt
barred_of (Unguarded mark) is = tt
barred_of (Order marks) is = absurd (cc)

module _ (app : App) (trace : List Entry) (left now : List SpanAnswer) (first : Option SpanAnswer) (a : SpanAnswer) (taken : left ≡ now ++ a ∷ [])
    (has : HasSifted app trace left first) where
  parts : All (λ x. IsAnswer app trace (reads_of trace x.span.birth x.span.span) x.answer) now
      × IsAnswer app trace (reads_of trace a.span.birth a.span.span) a.answer
  parts = All-pop (λ x. IsAnswer app trace (reads_of trace x.span.birth x.span.span) x.answer) left now (Some a) taken has.answered

  pub sifted_barred : is_barred a.answer ≡ true → HasSifted app trace now (Some a)
  sifted_barred is = record { answered = parts.0; barred = record { barred = barred_of a.answer is; answered = parts.1 } }

  pub sifted_order : HasSifted app trace now first
  sifted_order = record { answered = parts.0; barred = has.barred }
