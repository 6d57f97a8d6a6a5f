-- The subscriptions of a queue, one after another.
use Rattle.std.proofs.Common.{◌≡◌, ℕ, suc, ◌<◌, ◌≤◌, List, [], ◌∷◌, ◌++◌, length, map, get_or, refl, sym, ap₂, subst, ⊎_elim, arith}
use Rattle.std.proofs.lemmas.Bool.{cases_lt}
use Rattle.std.proofs.lemmas.List.{length_push, get_or_append_left, get_or_push}
use Rattle.anti_kind.specs.declared.entry.Entry.{Entry}
use Rattle.anti_kind.specs.declared.store_kind.Sub.{Sub}
use Rattle.anti_kind.specs.Store.{Store}
use Rattle.anti_queue.specs.declared.subscribers.Subscriber.{Subscriber}
use Rattle.anti_queue.specs.inner.Lists.{HasFree, HaveFree}

abbrev pub subs_in : List Subscriber → List Sub
subs_in xs = map (λ x. x.sub) xs

-- the subscriptions stay where each does
pub subs_kept : (xs ys : List Subscriber) → length ys ≡ length xs → ((i : ℕ) (d : Subscriber) → i < length xs → (get_or ys i d).sub ≡ (get_or xs i d).sub) → subs_in ys ≡ subs_in xs
subs_kept [] [] many same = refl
subs_kept [] (y ∷ ys) many same = absurd (omega arith)
subs_kept (x ∷ xs) [] many same = absurd (omega arith)
subs_kept (x ∷ xs) (y ∷ ys) many same =
    let rest : subs_in ys ≡ subs_in xs = subs_kept xs ys (omega arith) (λ i d short. same (suc i) d (omega arith)) in
    ap₂ (λ (a : Sub) (as' : List Sub). a ∷ as') (same 0 x (omega arith)) rest

-- One more subscription.

pub free_push : (s : Store) (h : List Entry) (xs : List Subscriber) (x : Subscriber) → HaveFree s h xs → HasFree s h x → HaveFree s h (xs ++ x ∷ [])
free_push s h xs x have has i d short =
    ⊎_elim (λ (before : i < length xs). subst (HasFree s h) (sym (get_or_append_left xs (x ∷ []) d i before)) (have i d before))
    (λ (last : length xs ≤ i). let here : length xs ≡ i = omega (arith, length_push xs x) in subst (HasFree s h) (sym (get_or_push xs x d i here)) has)
    (cases_lt i (length xs))
