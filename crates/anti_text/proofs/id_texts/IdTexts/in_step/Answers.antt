use Rattle.std.proofs.Common.{◌≡◌, ℕ, ◌-◌, ◌<◌, suc, ◌++◌, Some, length, take, drop, slice_get, ap, ◌∙◌, arith}
use Rattle.std.specs.List.{concat, flat_map}
use Rattle.std.proofs.lemmas.Option.{slice_get_within}
use Rattle.anti_text.specs.inner.Runs.{kept_text}
use Rattle.anti_text.proofs.Runs.{first_behind, goes_over, is_kept}
use Rattle.anti_text.proofs.id_texts.IdTexts.in_step.Goals as goal

pub loop-id-preserved : goal.loop-id-preserved
loop-id-preserved c =
    let texts = c.args.self.now in
    let ids = texts.written.ids.items in
    let f = kept_text texts.stores.items in
    let from = c.loop-id.run.from in
    let to = c.loop-id.run.to in
    let id = c.in-Some.id.now in
    let left = c.next.new.self in
    let front = first_behind to ids id c.in-Some-behind_front.behind.now (c.loop-id.invariant.rest ∙ c.in-Some-behind_front.ensures) in
    let there : slice_get texts.pieces to ≡ Some (f id) = is_kept f texts.pieces ids to id texts.kept front.0 in
    let within : to < length texts.pieces = slice_get_within texts.pieces to (f id) there in
    let fewer : length c.loop-id.ids ≡ suc (length left) = ap length c.in-Some.ensures.steps in
    let next : c.behind-run.result ≡ suc to = omega (arith, c.behind-run.ensures) in
    record {
      text = ap (λ (n : ℕ). concat (take (n - from) (drop from texts.pieces)) ++ flat_map f left) c.behind-run.ensures
          ∙ goes_over f texts.pieces from to id c.loop-id.ids left c.loop-id.invariant.run.ascends there c.in-Some.ensures.steps
          ∙ c.loop-id.invariant.text;
      run = record {
        ascends = omega (arith, c.loop-id.invariant.run.ascends, c.behind-run.ensures);
        within = omega (arith, within, c.behind-run.ensures);
      };
      less = omega (arith, c.loop-id.invariant.less, fewer);
      rest = ap (λ (n : ℕ). drop n ids) next ∙ front.1;
    }
