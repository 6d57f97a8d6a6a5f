use Rattle.std.proofs.Common.{◌≡◌, ◌+◌, ◌++◌, [], List, take, drop, get_or, ap, ◌∙◌}
use Rattle.std.proofs.lemmas.List.{get_or_default}
use Rattle.anti_ids.specs.declared.id.WriteId.{WriteId}
use Rattle.anti_ids.specs.inner.Parts.{joined, put_at}
use Rattle.anti_ids.proofs.PartLemmas.{joined-set, put_whole}
use Rattle.anti_ids.proofs.id_parts.put_in.Goals as goal

pub returns-clause-ok : goal.returns-clause-ok
returns-clause-ok c =
    let ps = c.args.parts.now.items in
    let n = c.args.number in
    let is : c.put.new.self ≡ put_at c.args.at c.args.id (get_or ps n []) =
    c.in_ok-put.ensures.ok ∙ ap (λ (p : List WriteId). put_at c.args.at c.args.id p) (c.index_mut-part.ensures.value ∙ get_or_default ps n c.index_mut-part.result.now [] c.requires.among) in
    joined-set ps n c.put.new.self c.requires.among
    ∙ ap (λ (x : List WriteId). joined (take n ps) ++ (x ++ joined (drop (n + 1) ps))) is
    ∙ put_whole ps n c.args.at [] c.args.id c.requires.among c.requires.inside
