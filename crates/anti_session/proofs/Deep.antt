-- The depth to which members are followed is never short: what is done for a call stands behind its post, so each step goes on along the
-- trace.
use Rattle.std.proofs.Common.{◌≡◌, ℕ, zero, suc, ◌+◌, ◌<◌, ◌≤◌, List, [], Contains, sym, ap, ◌∙◌, arith, inl, inr}
use Rattle.std.specs.Prelude.{length, flat_map}
use Rattle.std.proofs.lemmas.Bool.{cases_lt}
use Rattle.anti_kind.specs.declared.actor.Birth.{Birth}
use Rattle.anti_kind.specs.declared.entry.Entry.{Entry}
use Rattle.anti_app.specs.declared.app.App.{App}
use Rattle.anti_trace.specs.Legal.{IsLegalTrace, bears}
use Rattle.law_causal.specs.Causal.{message}
use Rattle.law_causal.proofs.Facts.{Facts}
use Rattle.law_causal.proofs.Known.{forward}
use Rattle.anti_session.specs.Members.{adds_at, members_in, span_places}
use Rattle.anti_session.proofs.Added.{Adds, IsInSpan, IsTake, PostsCall, call_delivered, in_span, itself, nothing, served, what_it_adds}
use Rattle.anti_session.proofs.Joined.{joined_same, nothing_in}
use Rattle.anti_session.proofs.Turns.{never_born}

module _ (app : App) (trace : List Entry) (legal : IsLegalTrace app trace) (facts : Facts app trace) where
  -- what a process does in a span does not stand before its taking of the call
  behind_take : (inbox number : ℕ) (c : Birth) (take : IsTake trace inbox number c) (y : ℕ) → Contains (span_places trace c 1) y
      → take.place ≤ y
  behind_take inbox number c take y among =
      let i : IsInSpan trace c 1 y = (in_span trace c 1 y among).0 in
      elim (cases_lt y take.place) [
        | inl early ↦
            absurd (never_born app trace legal c y take.place i.entry take.entry i.there take.there i.by take.by early (ap bears take.call))
        | inr late ↦ late
      ]

  -- a call that an entry posts is taken behind it
  behind_post : (x : ℕ) (b : Birth) (span : ℕ) (i : IsInSpan trace b span x) (number : ℕ) (c : Birth)
      → PostsCall i.entry.call i.entry.reply number → (take : IsTake trace i.entry.object number c) → x < take.place
  behind_post x b span i number c post take =
      forward app trace facts (message i.entry take.entry i.there take.there (call_delivered trace i.entry number c post take))

  -- one place, where it is so of all that stands behind it
  same_added : (depth p : ℕ) (b : Birth) (span : ℕ)
      → ((c : Birth) → ((y : ℕ) → Contains (span_places trace c 1) y → suc p ≤ y)
      → members_in depth trace c 1 ≡ members_in (suc depth) trace c 1)
      → (x : ℕ) → p ≤ x → IsInSpan trace b span x
      → adds_at (λ c. members_in depth trace c 1) trace b span x ≡ adds_at (λ c. members_in (suc depth) trace c 1) trace b span x
  same_added depth p b span deeper x high i = by_case (what_it_adds trace b span x i.entry i.there)
    where
      by_case : Adds trace b span x i.entry
          → adds_at (λ c. members_in depth trace c 1) trace b span x ≡ adds_at (λ c. members_in (suc depth) trace c 1) trace b span x
      by_case (nothing gives) = gives (λ c. members_in depth trace c 1) ∙ sym (gives (λ c. members_in (suc depth) trace c 1))
      by_case (itself is gives) = gives (λ c. members_in depth trace c 1) ∙ sym (gives (λ c. members_in (suc depth) trace c 1))
      by_case (served number c post a gives) =
          let low : x < a.take.place = behind_post x b span i number c post a.take in
          gives (λ c. members_in depth trace c 1)
          ∙ deeper c (λ y among. let late = behind_take i.entry.object number c a.take y among in omega (arith, high, low, late))
          ∙ sym (gives (λ c. members_in (suc depth) trace c 1))

  pub deep_enough : (depth p : ℕ) (b : Birth) (span : ℕ) → ((x : ℕ) → Contains (span_places trace b span) x → p ≤ x)
      → length trace ≤ depth + p → members_in depth trace b span ≡ members_in (suc depth) trace b span
  deep_enough zero p b span from short =
      let none : span_places trace b span ≡ [] =
      nothing_in (span_places trace b span)
      (λ x among. let low = from x among in let high = (in_span trace b span x among).1 in omega (arith, low, high, short)) in
      sym (ap (flat_map (adds_at (λ c. members_in zero trace c 1) trace b span)) none)
  deep_enough (suc depth) p b span from short =
      joined_same (adds_at (λ c. members_in depth trace c 1) trace b span) (adds_at (λ c. members_in (suc depth) trace c 1) trace b span)
      (span_places trace b span)
      (λ x among. same_added depth p b span (λ c behind. deep_enough depth (suc p) c 1 behind (omega (arith, short))) x (from x among)
      (in_span trace b span x among).0)
