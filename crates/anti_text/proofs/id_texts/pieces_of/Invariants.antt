use Rattle.std.proofs.Common.{◌≡◌, map, take}
use Rattle.anti_text.specs.inner.Runs.{kept_text}
use Rattle.anti_text.proofs.id_texts.pieces_of.Given as goal

-- the texts of the ids so far
abbrev pub invariant-loop-id : goal.invariant-loop-id
invariant-loop-id l = l.pieces ≡ map (kept_text l.stores) (take l.id-index l.ids)
