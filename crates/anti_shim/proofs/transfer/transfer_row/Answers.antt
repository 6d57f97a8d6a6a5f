use Rattle.std.proofs.Common.{◌≡◌, ◌<◌, ◌==◌, ◌∷◌, Bool, List, cond, length, true, false, not, sym, ap, ◌∙◌, arith}
use Rattle.std.specs.Prelude.{Result, Err}
use Rattle.std.proofs.lemmas.Bool.{eqb-true, false_from_ne_true, not-true, not-false}
use Rattle.std.proofs.lemmas.Result.{err_from_is_err_and}
use Rattle.anti_ids.specs.Ids.{has_id, with_id, with_ids, without_id}
use Rattle.anti_ids.specs.declared.id.WriteId.{WriteId}
use Rattle.anti_ids.specs.declared.limits.TheConstants.{MOST_IDS}
use Rattle.anti_ids.specs.declared.lineage.LineageRefused.{LineageRefused}
use Rattle.anti_ids.specs.declared.lineage.LineageRefused.TheVariants.{Full}
use Rattle.anti_ids.proofs.IdLemmas.{le-length-with_ids, with_id-there}
use Rattle.anti_kind.specs.declared.row.Row.{Row}
use Rattle.anti_shim.proofs.Brought.{without_new}
use Rattle.anti_shim.proofs.transfer.transfer_row.Goals as goal

same_fault : (one other : LineageRefused) → ◌≡◌ {A = Result (Unit {0}) LineageRefused} (Err one) (Err other) → one ≡ other
same_fault one other is = cc

-- an id that is too many alone is so with the others
pub returns-in_err-is_new-clause-full : goal.returns-in_err-is_new-clause-full
returns-in_err-is_new-clause-full c full =
    let id : WriteId = record { store = c.args.store; key = c.args.row.now.key; version = c.args.row.now.version } in
    let row : Row = c.args.row.now in
    let old : List WriteId = c.args.lineage.now in
    let gave = err_from_is_err_and c.from_residual.result c.from_residual.ensures.1 in
    let same : c.in_err-is_new.field-0.0 ≡ Full = same_fault c.in_err-is_new.field-0.0 Full (sym (gave.1 ∙ ap Err gave.2) ∙ full) in
    let many : MOST_IDS < length (with_id id old) = c.in_err-is_new.ensures.too_many (ap Err same) in
    let written : (row.version == 0) ≡ false = false_from_ne_true (row.version == 0) (λ none. c.if-row-eq0.false (eqb-true row.version 0 none)) in
    let all = ap (λ (b : Bool). length (with_ids (cond b row.lineage (id ∷ row.lineage)) old)) written in
    omega (arith, many, le-length-with_ids row.lineage (with_id id old), all)

pub returns-then-is_new-clause-err : goal.returns-then-is_new-clause-err
returns-then-is_new-clause-err c =
    let id : WriteId = record { store = c.args.store; key = c.args.row.now.key; version = c.args.row.now.version } in
    let old : List WriteId = c.args.lineage.now in
    let new : not (has_id id old) ≡ true = sym c.in_ok-is_new.ensures.new ∙ c.if-is_new.true in
    let with_first : c.transfer-2.new.self ≡ with_id id old = c.in-Err.ensures.err ∙ c.in_ok-is_new.ensures.ok in
    c.remove.ensures.ids ∙ ap (λ (ids : List WriteId). without_id id ids) with_first ∙ without_new id old c.iter-ascending.ensures.lineage.ascending (not-true (has_id id old) new)

-- where it was there nothing was added
pub returns-else-is_new-clause-err : goal.returns-else-is_new-clause-err
returns-else-is_new-clause-err c =
    let id : WriteId = record { store = c.args.store; key = c.args.row.now.key; version = c.args.row.now.version } in
    let old : List WriteId = c.args.lineage.now in
    let there : not (has_id id old) ≡ false = sym c.in_ok-is_new.ensures.new ∙ c.if-is_new.false in
    c.in-Err.ensures.err ∙ c.in_ok-is_new.ensures.ok ∙ with_id-there id old c.iter-ascending.ensures.lineage.ascending (not-false (has_id id old) there)
