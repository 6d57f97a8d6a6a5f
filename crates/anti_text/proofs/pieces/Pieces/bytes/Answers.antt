use Rattle.std.proofs.Common.{◌≡◌, ◌-◌, length, take, drop, sym, ap, ◌∙◌, arith}
use Rattle.anti_text.specs.inner.Cut.{cut, edge}
use Rattle.anti_text.specs.inner.Runs.{run_text}
use Rattle.anti_text.proofs.Cuts.{cut_length, edge_ascends, edge_within, run_is}
use Rattle.anti_text.proofs.pieces.Pieces.bytes.Goals as goal

pub edge-requires : goal.edge-requires
edge-requires c =
    let many : length c.args.self.now ≡ length c.self.inside.ends.items = ap length (sym c.self.view_is) ∙ cut_length c.self.inside.text 0 c.self.inside.ends.items in
    omega (arith, many, c.requires.ascends, c.requires.within, ap length c.as_slice-ends.ensures.value)

pub edge-requires-2 : goal.edge-requires-2
edge-requires-2 c =
    let many : length c.args.self.now ≡ length c.self.inside.ends.items = ap length (sym c.self.view_is) ∙ cut_length c.self.inside.text 0 c.self.inside.ends.items in
    omega (arith, many, c.requires.within, ap length c.as_slice-ends.ensures.value)

pub part-requires-clause-ascends : goal.part-requires-clause-ascends
part-requires-clause-ascends c =
    rw (c.edge.ensures, c.edge-2.ensures, c.as_slice-ends.ensures.value)
    (edge_ascends 0 c.self.inside.ends.items (length c.self.inside.text) c.args.run.from c.args.run.to c.self.invariant c.requires.ascends)

pub part-requires-clause-within : goal.part-requires-clause-within
part-requires-clause-within c =
    rw (c.edge-2.ensures, c.as_slice-ends.ensures.value, c.bytes.ensures)
    (edge_within 0 c.self.inside.ends.items (length c.self.inside.text) c.args.run.to c.self.invariant)

pub returns : goal.returns
returns c =
    let text = c.self.inside.text in
    let ends = c.self.inside.ends.items in
    let from = c.args.run.from in
    let to = c.args.run.to in
    let copied : c.part.result.now ≡ take (edge 0 ends to - edge 0 ends from) (drop (edge 0 ends from) text) =
    rw (← c.as_slice-ends.ensures.value, ← c.edge.ensures, ← c.edge-2.ensures, ← c.bytes.ensures) c.part.ensures in
    let seen : run_text (cut text 0 ends) c.args.run ≡ run_text c.args.self.now c.args.run = ap (λ ps. run_text ps c.args.run) c.self.view_is in
    copied ∙ sym (run_is text 0 ends (length text) from to c.self.invariant c.requires.ascends) ∙ seen
