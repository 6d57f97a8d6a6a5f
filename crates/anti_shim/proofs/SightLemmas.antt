-- Sights, and what stays of them while more is seen.
use Rattle.std.proofs.Common.{◌≡◌, ℕ, ◌<◌, Bool, true, false, ◌||◌, List, [], ◌∷◌, ◌++◌, length, get_or, ap, sym, ◌∙◌, subst, refl, eq-eqb}
use Rattle.std.specs.Prelude.{Contains, Some, ◌==◌}
use Rattle.std.proofs.lemmas.List.Folds.{list_any_at, list_any-append}
use Rattle.std.proofs.lemmas.List.Elements.{All-push}
use Rattle.std.proofs.lemmas.List.Quantifiers.{all_pairs_push}
use Rattle.anti_kind.specs.declared.actor.Actor.{Actor}
use Rattle.anti_kind.specs.Inbox.{numbered}
use Rattle.anti_kind.specs.Ports.{View}
use Rattle.anti_kind.specs.Entries.{named}
use Rattle.anti_shim.specs.declared.caller.Caller.{Caller}
use Rattle.anti_shim.specs.declared.looks.PlannedLook.{PlannedLook}
use Rattle.anti_shim.specs.declared.sight.Sight.{Sight}
use Rattle.anti_shim.specs.Sights.{has_sight, IsSeen, HasSights}

-- Whether there is a sight of a store.

has_at : (sights : List Sight) (i : ℕ) (d : Sight) → i < length sights → has_sight sights (get_or sights i d).store ≡ true
has_at sights i d within = list_any_at (λ (s : Sight). s.store == (get_or sights i d).store) sights i d within (eq-eqb (get_or sights i d).store (get_or sights i d).store refl)

none_at : (sights : List Sight) (o i : ℕ) (d : Sight) → has_sight sights o ≡ false → i < length sights → (get_or sights i d).store ≡ o → ⊥
none_at sights o i d none within is =
    let there : has_sight sights o ≡ true = subst (λ (n : ℕ). has_sight sights n ≡ true) is (has_at sights i d within) in
    absurd (cc)

or_false : (b : Bool) → (b || false) ≡ b
or_false true = refl
or_false false = refl

or_right : (a b : Bool) → b ≡ true → (a || b) ≡ true
or_right true b e = refl
or_right false b e = e

or_none : (a b : Bool) → (a || b) ≡ false → (a ≡ false) × (b ≡ false)
or_none true b e = absurd (cc)
or_none false b e = (refl, e)

has_more : (sights : List Sight) (sight : Sight) (o : ℕ) → has_sight (sights ++ sight ∷ []) o ≡ (has_sight sights o || (sight.store == o))
has_more sights sight o = list_any-append (λ (s : Sight). s.store == o) sights (sight ∷ []) ∙ ap (λ (b : Bool). has_sight sights o || b) (or_false (sight.store == o))

pub has_still : (sights : List Sight) (sight : Sight) (o : ℕ) → has_sight sights o ≡ true → has_sight (sights ++ sight ∷ []) o ≡ true
has_still sights sight o there = has_more sights sight o ∙ ap (λ (b : Bool). b || (sight.store == o)) there

pub has_last : (sights : List Sight) (sight : Sight) (o : ℕ) → sight.store ≡ o → has_sight (sights ++ sight ∷ []) o ≡ true
has_last sights sight o is = has_more sights sight o ∙ or_right (has_sight sights o) (sight.store == o) (eq-eqb sight.store o is)

-- where there is none among more, there is none among fewer
pub none_before : (sights more : List Sight) (o : ℕ) → has_sight (sights ++ more) o ≡ false → has_sight sights o ≡ false
none_before sights more o none = (or_none (has_sight sights o) (has_sight more o) (sym (list_any-append (λ (s : Sight). s.store == o) sights more) ∙ none)).0

-- and the last is of another store
pub none_last : (sights : List Sight) (sight : Sight) (o : ℕ) → has_sight (sights ++ sight ∷ []) o ≡ false → sight.store ≡ o → ⊥
none_last sights sight o none is = let there : has_sight (sights ++ sight ∷ []) o ≡ true = has_last sights sight o is in absurd (cc)

-- Sights stay where their stores are as they were.
pub sights_stay : (now new : ℕ → View) (who : Caller) (region : ℕ) (looks : List PlannedLook) (sights : List Sight) → ((o : ℕ) → has_sight sights o ≡ true → new o ≡ now o)
    → HasSights now who region looks sights → HasSights new who region looks sights
sights_stay now new who region looks sights same h =
    record {
      distinct = h.distinct;
      seen = λ i d within.
          let s = h.seen i d within in
          let there : has_sight sights s.0.store ≡ true = subst (λ (n : ℕ). has_sight sights n ≡ true) s.2.store (has_at sights i d within) in (
            s.0,
            s.1,
            record {
              store = s.2.store;
              entry = s.2.entry;
              place = subst (λ (v : View). numbered v.seen (get_or sights i d).place ≡ Some s.2.entry) (sym (same s.0.store there)) s.2.place;
              stamp = s.2.stamp;
              actor = s.2.actor;
              span = s.2.span;
              call = s.2.call;
              reply = s.2.reply;
            },
          );
    }

-- one more sight, of a store of which there was none
pub sights_more : (now : ℕ → View) (who : Caller) (region : ℕ) (looks : List PlannedLook) (sights : List Sight) (look : PlannedLook) (sight : Sight)
    → HasSights now who region looks sights → has_sight sights look.store ≡ false → Contains looks look → IsSeen now who region look sight
    → HasSights now who region looks (sights ++ sight ∷ [])
sights_more now who region looks sights look sight h none planned seen =
    record {
      distinct = all_pairs_push (λ (a b : Sight). a.store ≡ b.store → ⊥) sights sight h.distinct (λ i d within same. none_at sights look.store i d none within (same ∙ seen.store));
      seen = All-push (λ (s : Sight). (l : PlannedLook) × Contains looks l × IsSeen now who region l s) sights sight h.seen (look, planned, seen);
    }

-- the sights of a caller whose last stamp has changed
pub sights_of : (now : ℕ → View) (before after : Caller) (region : ℕ) (looks : List PlannedLook) (sights : List Sight) → after.actor ≡ before.actor → after.span ≡ before.span
    → HasSights now before region looks sights → HasSights now after region looks sights
sights_of now before after region looks sights actor span h =
    record {
      distinct = h.distinct;
      seen = λ i d within.
          let s = h.seen i d within in (
            s.0,
            s.1,
            record {
              store = s.2.store;
              entry = s.2.entry;
              place = s.2.place;
              stamp = s.2.stamp;
              actor = s.2.actor ∙ ap (λ (a : Actor). named a s.0.store (get_or sights i d).place) (sym actor);
              span = s.2.span ∙ sym span;
              call = s.2.call;
              reply = s.2.reply;
            },
          );
    }
