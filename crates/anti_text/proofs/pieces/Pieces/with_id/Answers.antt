use Rattle.std.proofs.Common.{◌≡◌, ℕ, List, ◌∷◌, ◌++◌, [], length, codes, ap, ◌∙◌}
use Rattle.std.proofs.lemmas.List.{append_assoc}
use Rattle.anti_baggage.specs.Texts.{id_text}
use Rattle.anti_text.specs.inner.Runs.{kept_text}
use Rattle.anti_text.proofs.Cuts.{closed, risen}
use Rattle.anti_text.proofs.pieces.Pieces.with_id.Goals as goal
use Rattle.anti_text.proofs.pieces.Pieces.with_id.Goals.{In_ok-push}

-- what was written, and where it ends
written : (c : In_ok-push) → c.put.new.self ≡ c.self.inside.text ++ kept_text c.args.stores.now c.args.id.now
written c =
    c.in_ok-put.ensures ∙ ap (λ t. t ++ codes ",") c.in_ok-id.ensures
    ∙ append_assoc c.self.inside.text (id_text c.args.stores.now c.args.id.now) (codes ",")

ended : (c : In_ok-push) → c.push.new.self.items ≡ c.self.inside.ends.items ++ length c.put.new.self ∷ []
ended c = c.in_ok-push.ensures.items ∙ ap (λ (n : ℕ). c.self.inside.ends.items ++ n ∷ []) c.len.ensures

pub invariant_of-result : goal.invariant_of-result
invariant_of-result c =
    risen c.self.inside.text (kept_text c.args.stores.now c.args.id.now) c.put.new.self c.self.inside.ends.items c.push.new.self.items (written c) (ended c) c.self.invariant

pub returns : goal.returns
returns c =
    let more = kept_text c.args.stores.now c.args.id.now in
    closed c.self.inside.text more c.put.new.self c.self.inside.ends.items c.push.new.self.items (written c) (ended c) c.self.invariant
    ∙ ap (λ (ps : List (List ℕ)). ps ++ more ∷ []) c.self.view_is
