use Rattle.std.proofs.Common.{◌≡◌, ◌+◌, ◌++◌, ◌∷◌, [], List, take, drop, get_or, ap, ◌∙◌, rules, set}
use Rattle.std.proofs.lemmas.List.{get_or_default}
use Rattle.anti_ids.specs.declared.id.WriteId.{WriteId}
use Rattle.anti_ids.specs.inner.Parts.{joined, put_at}
use Rattle.anti_ids.proofs.PartLemmas.{joined_two, put_whole}
use Rattle.anti_ids.proofs.id_parts.cut_with.Goals as goal

pub returns-clause-ok : goal.returns-clause-ok
returns-clause-ok c =
    let ps = c.args.parts.now.items in
    let n = c.args.number in
    let front = c.in_ok-front.front in
    let back = c.in_ok-front.back in
    let longer : c.insert.new.self.items ≡ take (n + 1) ps ++ back ∷ drop (n + 1) ps = search rules in
    let halves : front ++ back ≡ put_at c.args.at c.args.id (get_or ps n []) =
    c.in_ok-front.ensures ∙ ap (λ (p : List WriteId). put_at c.args.at c.args.id p) (c.index.ensures ∙ get_or_default ps n c.index.result.now [] c.requires.among) in
    ap (λ (x : List (List WriteId)). joined (set x n front)) longer
    ∙ joined_two ps n front back c.requires.among
    ∙ ap (λ (x : List WriteId). joined (take n ps) ++ (x ++ joined (drop (n + 1) ps))) halves
    ∙ put_whole ps n c.args.at [] c.args.id c.requires.among c.requires.inside
