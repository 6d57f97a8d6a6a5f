use Rattle.std.proofs.Common.{◌≡◌, ◌++◌, List, true, Ok, Err, take, drop, ap, sym, subst, ◌∙◌, rules}
use Rattle.std.specs.Prelude.{ℕ, Result, codes}
use Rattle.std.specs.Str.{bytes_eq}
use Rattle.std.proofs.lemmas.Result.{err_from_is_err_and}
use Rattle.anti_ids.specs.Answers.{AnswersBut}
use Rattle.anti_ids.specs.declared.id.WriteId.{WriteId}
use Rattle.anti_baggage.specs.declared.fault.BaggageFault.{BaggageFault}
use Rattle.anti_baggage.specs.declared.fault.BaggageFault.TheVariants.{NoMemory}
use Rattle.anti_baggage.specs.declared.place.Place.{Place}
use Rattle.anti_baggage.specs.declared.place.Place.TheVariants.{Alone}
use Rattle.anti_baggage.specs.Reading.{between_bars, between_commas, read_lineage}
use Rattle.anti_baggage.specs.Steps.{read_behind}
use Rattle.anti_baggage.proofs.Behind.{IsFault, all_read, all_refused, none_one, none_two, read_one, read_two}
use Rattle.anti_baggage.proofs.decoder.decode.Goals as goal
use Rattle.anti_baggage.proofs.decoder.decode.Goals.{then-not-is_empty+in_ok-add_ids, else-not-is_empty, then-not-is_empty-2+in_ok-add_groups, else-not-is_empty-2}

pub returns-in_err-add_ids : goal.returns-in_err-add_ids
returns-in_err-add_ids c =
    let stores = c.args.stores.now in
    let bytes = c.args.bytes.now in
    let text = c.in-Some.text.now in
    let pieces = between_commas Alone Alone text in
    let fault = c.in_err-add_ids.field-0.0 in
    let whole = read_one stores bytes text (search rules) (search rules) (search rules) in
    let refused = subst (λ (ids : List WriteId). (rest : List (Place × List ℕ)) → IsFault fault (read_behind stores ids (pieces ++ rest))) c.root-lineage.ensures c.in_err-add_ids.ensures in
    let said = subst (IsFault fault) whole (all_refused stores pieces fault refused) in
    let given = err_from_is_err_and c.from_residual.result c.from_residual.ensures.1 in
    let is : c.from_residual.result ≡ Err fault = given.1 ∙ ap Err given.2 in
    subst (λ (r : Result (List WriteId) BaggageFault). AnswersBut NoMemory r (read_lineage stores bytes)) (sym is) said

pub returns-in-Some : goal.returns-in-Some
returns-in-Some c =
    let stores = c.args.stores.now in
    let bytes = c.args.bytes.now in
    let text = c.in-Some.text.now in
    let behind : text ≡ drop 2 bytes = search rules in
    let head : bytes_eq (take 2 bytes) (codes "1;") ≡ true = search rules in
    elim c.if-not-is_empty.branch [
      | then-not-is_empty+in_ok-add_ids w ↦
          let pieces = between_commas Alone Alone text in
          let read = subst (λ (ids : List WriteId). (rest : List (Place × List ℕ)) → read_behind stores ids (pieces ++ rest) ≡ read_behind stores w.add_ids.new.lineage rest) c.root-lineage.ensures w.in_ok-add_ids.ensures in
          sym (read_one stores bytes text behind head (search rules)) ∙ all_read stores pieces w.add_ids.new.lineage read ∙ ap Ok (sym w.lineage-is)
      | else-not-is_empty w ↦
          none_one stores bytes text behind head (search rules) ∙ ap Ok (sym (w.lineage-is ∙ c.root-lineage.ensures))
    ]

pub returns-in_err-add_groups : goal.returns-in_err-add_groups
returns-in_err-add_groups c =
    let stores = c.args.stores.now in
    let bytes = c.args.bytes.now in
    let text = c.in-Some-strip_prefix.text.now in
    let pieces = between_bars text in
    let fault = c.in_err-add_groups.field-0.0 in
    let whole = read_two stores bytes text (search rules) (search rules) (search rules) in
    let refused = subst (λ (ids : List WriteId). (rest : List (Place × List ℕ)) → IsFault fault (read_behind stores ids (pieces ++ rest))) c.root-lineage.ensures c.in_err-add_groups.ensures in
    let said = subst (IsFault fault) whole (all_refused stores pieces fault refused) in
    let given = err_from_is_err_and c.from_residual-in_err-add_groups.result c.from_residual-in_err-add_groups.ensures.1 in
    let is : c.from_residual-in_err-add_groups.result ≡ Err fault = given.1 ∙ ap Err given.2 in
    subst (λ (r : Result (List WriteId) BaggageFault). AnswersBut NoMemory r (read_lineage stores bytes)) (sym is) said

pub returns : goal.returns
returns c =
    let stores = c.args.stores.now in
    let bytes = c.args.bytes.now in
    let text = c.in-Some-strip_prefix.text.now in
    let behind : text ≡ drop 2 bytes = search rules in
    let head : bytes_eq (take 2 bytes) (codes "2;") ≡ true = search rules in
    elim c.if-not-is_empty-2.branch [
      | then-not-is_empty-2+in_ok-add_groups w ↦
          let pieces = between_bars text in
          let read = subst (λ (ids : List WriteId). (rest : List (Place × List ℕ)) → read_behind stores ids (pieces ++ rest) ≡ read_behind stores w.add_groups.new.lineage rest) c.root-lineage.ensures w.in_ok-add_groups.ensures in
          sym (read_two stores bytes text behind head (search rules)) ∙ all_read stores pieces w.add_groups.new.lineage read ∙ ap Ok (sym w.lineage-is)
      | else-not-is_empty-2 w ↦
          none_two stores bytes text behind head (search rules) ∙ ap Ok (sym (w.lineage-is ∙ c.root-lineage.ensures))
    ]
