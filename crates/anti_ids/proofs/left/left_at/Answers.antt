use Rattle.std.proofs.Common.{◌≡◌, ◌<◌, List, length, sym, subst, rules}
use Rattle.std.specs.Prelude.{Some, slice_get}
use Rattle.anti_ids.specs.declared.id.WriteId.{WriteId}
use Rattle.anti_ids.proofs.LeftLemmas.{all_left}
use Rattle.anti_ids.proofs.left.left_at.Goals as goal

pub at-requires : goal.at-requires
at-requires c =
    subst (λ (x : List WriteId). c.args.index < length x) (all_left c.args.words.now 0 c.args.block.now (c.is_any_gone.ensures (search rules))) c.requires.within

pub returns : goal.returns
returns c =
    subst (λ (x : List WriteId). slice_get x c.args.index ≡ Some c.at.result) (sym (all_left c.args.words.now 0 c.args.block.now (c.is_any_gone.ensures (search rules)))) c.at.ensures
