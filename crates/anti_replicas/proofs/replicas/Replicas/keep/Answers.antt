use Rattle.std.proofs.Common.{◌≡◌, ℕ, ◌+◌, [], ◌∷◌, ◌++◌, replicate, Ok, Err, Result, OnErr, Option, Some, length, unwrap_or, refl, sym, ap, subst, ◌∙◌, rules, arith}
use Rattle.anti_replicas.specs.declared.replicas.Replicas.{Replicas}
use Rattle.anti_kind.specs.declared.row.Row.{Row}
use Rattle.anti_kind.specs.Stored.{parts_of}
use Rattle.anti_replicas.specs.declared.newest.Newest.{Newest}
use Rattle.anti_replicas.specs.inner.Newest.{key_number, Brings}
use Rattle.anti_replicas.specs.inner.Standing.{Stands, its_number}
use Rattle.anti_replicas.proofs.Standing.{stands_with_place}
use Rattle.anti_replicas.proofs.replicas.Replicas.keep.Goals as goal

on_err : {T E P : Type 0} (r : Result T E) → P → OnErr r P
on_err (Ok x) holds = tt
on_err (Err e) holds = holds

pub returns-in_err-number-clause-err : goal.returns-in_err-number-clause-err
returns-in_err-number-clause-err c = λ s h state.
    on_err c.from_residual-in_err-number.result (stands_with_place c.args.self.now _ s h state c.make_place.ensures.makes refl c.requires.behind refl)

pub returns-in_err-await_next-clause-err : goal.returns-in_err-await_next-clause-err
returns-in_err-await_next-clause-err c = λ s h state.
    on_err c.from_residual-in_err-await_next.result
    (subst (λ (n : Replicas). Stands n s h) (sym c.await_next.ensures.only)
    (stands_with_place c.args.self.now _ s h state c.make_place.ensures.makes refl c.await_next.ensures.behind refl))

pub returns-then-is_err-clause-err : goal.returns-then-is_err-clause-err
returns-then-is_err-clause-err c = λ s h state.
    subst (λ (n : Replicas). Stands (record n { kept = c.push.new.self }) s h) (sym c.await_next.ensures.only)
    (stands_with_place c.args.self.now _ s h state c.make_place.ensures.makes (search rules) c.await_next.ensures.behind refl)

pub returns-clause-ok : goal.returns-clause-ok
returns-clause-ok c =
    let m : Replicas = c.args.self.now in
    let w : Replicas = c.await_next.new.self in
    let placed : Newest = c.make_place.new.self in
    let newest : w.newest ≡ placed = ap (λ (l : Replicas). l.newest) c.await_next.ensures.only in
    let number : key_number placed c.args.key ≡ Some c.in_ok-number.number = c.in_ok-number.ensures.number in
    let its : its_number placed c.args.key ≡ c.in_ok-number.number = ap (λ (o : Option ℕ). unwrap_or o 0) number in
    let version : c.len.result ≡ length m.kept.items = omega (arith, c.len.ensures, m.kept.ok.0) in
    let row : Row = record { key = c.args.key; version = length m.kept.items + 1; value = c.args.value.now; lineage = c.args.lineage.now } in
    let pushed : c.push.new.self.items ≡ m.kept.items ++ record { row = row; marks = replicate 8 0; parts = parts_of m.kind c.args.value.now; number = c.in_ok-number.number } ∷ [] = search rules in
    record {
      kind_is = search rules;
      store_is = search rules;
      regions_are = search rules;
      replicas_are = search rules;
      placed = placed;
      makes = c.make_place.ensures.makes;
      number = number ∙ ap Some (sym its);
      brings =
          subst (λ (n : Newest). Brings n c.bring.new.self 8 (its_number placed c.args.key) (length m.kept.items + 1)) newest
          (subst (λ (i : ℕ). Brings w.newest c.bring.new.self 8 i (length m.kept.items + 1)) (sym its)
          (subst (λ (v : ℕ). Brings w.newest c.bring.new.self 8 c.in_ok-number.number (v + 1)) version c.bring.ensures));
      kept_is = pushed ∙ ap (λ (i : ℕ). m.kept.items ++ record { row = row; marks = replicate 8 0; parts = parts_of m.kind c.args.value.now; number = i } ∷ []) (sym its);
      some = search rules;
      few = search rules;
      upto_is = search rules;
      behind = search rules;
      have_next = search rules;
      longest_is = search rules;
      held_is = search rules;
      owed_is = search rules;
    }
