use Rattle.std.proofs.Common.{◌≡◌, ℕ, ◌+◌, ◌≤◌, [], ◌∷◌, get_or, sym, ◌∙◌, arith}
use Rattle.std.proofs.lemmas.Bool.{leb-true}
use Rattle.anti_past.specs.inner.Came.{came_ids}
use Rattle.anti_past.proofs.Filled.{alone, few_came, filled}
use Rattle.anti_past.proofs.came.Came.is_filled.Goals as goal

pub returns-in-Some : goal.returns-in-Some
returns-in-Some c = λ app fits among.
    let trace = c.args.trace.now in
    let came = c.args.self.now in
    let index : ℕ = get_or c.as_slice.result.now 0 0 in
    let one = c.in-len1.len_at_least in
    let only = c.in-len1.len_below in
    let since : came.since.items ≡ index ∷ [] = sym c.as_slice.ensures.value ∙ alone c.as_slice.result.now (omega arith) in
    let few = few_came app trace came index c.in-Some.most since (sym c.most_at.ensures ∙ c.in-Some.is) in
    let many : c.len.result + c.in-Some.most ≤ c.len-in-Some.result = leb-true (c.len.result + c.in-Some.most) c.len-in-Some.result fits in
    filled c.args.lineage.now (came_ids app trace came) c.iter-ascending.ensures.lineage.ascending among (omega arith)
