use Rattle.std.proofs.Common.{◌≡◌, ◌++◌, codes, take}
use Rattle.std.specs.List.{flat_map}
use Rattle.serde_json.specs.Written.{compact_text}
use Rattle.anti_text.proofs.record_json.add_later.Given as goal

-- the items so far are added
abbrev pub invariant-loop-item : goal.invariant-loop-item
invariant-loop-item g l = l.out ≡ l.initial.out ++ flat_map (λ item. codes "," ++ compact_text (g.T.Item.says l.printer.app.now item)) (take l.item-index l.items)
