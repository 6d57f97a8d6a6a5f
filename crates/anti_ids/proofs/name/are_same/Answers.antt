use Rattle.std.proofs.Common.{◌≡◌, ℕ, List, take, drop, sym, ap, ◌∙◌, rules}
use Rattle.std.specs.Int.{from_be_bytes, w64}
use Rattle.std.specs.Ordering.{is_eq}
use Rattle.std.proofs.lemmas.Map.Text.{is_eq-slice_cmp}
use Rattle.std.proofs.lemmas.Slice.Eq.{bytes_eq-Decides}
use Rattle.anti_ids.proofs.NameOrder.{same_eight, none_left}
use Rattle.anti_ids.proofs.name.are_same.Goals as goal

pub returns-then-word : goal.returns-then-word
returns-then-word c =
    let differ : c.args.one.now ≡ c.args.other.now → ⊥ =
    λ same. c.if-word.true (c.word.ensures ∙ ap (λ (text : List ℕ). from_be_bytes w64 (take 8 (drop c.loop-at.at text))) same ∙ sym c.word-in-loop-at.ensures) in
    search (rules, bytes_eq-Decides)

pub loop-at-preserved : goal.loop-at-preserved
loop-at-preserved c =
    same_eight c.args.one.now c.args.other.now c.loop-at.at c.word.result c.word-in-loop-at.result c.told-one c.told-other c.fits-one c.fits-other c.word.ensures c.word-in-loop-at.ensures
    c.loop-at-test.true c.loop-at.invariant c.if-word.false

pub returns : goal.returns
returns c =
    sym (ap is_eq (none_left c.args.one.now c.args.other.now c.loop-at.at c.told-one c.told-other c.loop-at-test.false c.loop-at.invariant)) ∙ is_eq-slice_cmp c.args.one.now c.args.other.now
