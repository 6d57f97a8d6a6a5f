use Rattle.std.proofs.Common.{Bool, List, map, ◌∙◌, ap, ap₂}
use Rattle.anti_lang.specs.Bodies.{block_from, block_of, step_of}
use Rattle.anti_lang.specs.declared.statement.Statement.{Statement}
use Rattle.anti_place.specs.Paths.{first_fault}
use Rattle.anti_place.proofs.Doubting.{first_of_all}
use Rattle.anti_place.proofs.placement.fault_of_handler.Goals as goal

pub returns : goal.returns
returns c =
    c.next_fault.ensures
    ∙ first_of_all c.is_called-called.result c.is_named-named.result (block_from (map step_of c.as_slice.result.now))
    ∙ ap (λ (statements : List Statement). first_fault c.is_called-called.result c.is_named-named.result (block_from (map step_of statements))) c.as_slice.ensures
    ∙ ap₂ (λ (called named : Bool). first_fault called named (block_of c.args.body.now)) c.is_called-called.ensures c.is_named-named.ensures
