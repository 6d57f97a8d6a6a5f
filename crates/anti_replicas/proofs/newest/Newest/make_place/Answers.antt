use Rattle.std.proofs.Common.{◌≡◌, ℕ, [], ◌∷◌, ◌++◌, length, replicate, Some, sym, subst, refl, arith}
use Rattle.std.proofs.lemmas.Grind.{common_steps}
use Rattle.std.specs.BTreeMap.{Updates}
use Rattle.std.specs.Cmp.Lexicographic.{slice_cmp}
use Rattle.std.specs.Ordering.{nat_cmp}
use Rattle.anti_replicas.proofs.Places.{place_none, place_spare, place_made}
use Rattle.anti_replicas.proofs.newest.Newest.make_place.Goals as goal

pub returns-then-is_err-clause-makes : goal.returns-then-is_err-clause-makes
returns-then-is_err-clause-makes c =
    let same : c.push.new.self.items ≡ c.args.self.now.versions.items = grind (arith, common_steps) in
    place_none c.args.self.now _ c.requires same refl

pub returns-in-Ok-clause-makes : goal.returns-in-Ok-clause-makes
returns-in-Ok-clause-makes c =
    let m = c.args.self.now in
    let pushed : c.push.new.self.items ≡ m.versions.items ++ replicate 9 0 ∷ [] = grind (arith, common_steps) in
    let number : c.len-number.result ≡ length m.versions.items = omega (arith, c.len-number.ensures, m.versions.ok.0) in
    place_made m _ c.requires pushed c.args.key (subst (λ (i : ℕ). Updates (slice_cmp nat_cmp) m.numbers c.insert.new.self c.args.key (Some i)) number c.in-Ok.ensures.updates)
    (sym c.in_default.ensures.value)

pub returns-in-Err-clause-makes : goal.returns-in-Err-clause-makes
returns-in-Err-clause-makes c =
    let pushed : c.push.new.self.items ≡ c.args.self.now.versions.items ++ replicate 9 0 ∷ [] = grind (arith, common_steps) in
    place_spare c.args.self.now _ c.requires pushed c.in-Err.ensures.err
