use Rattle.std.proofs.Common.{◌≡◌, ◌++◌, ℕ, Bool, false, cond, [], ◌∷◌, nat_eq, refl, sym, ap, ◌∙◌}
use Rattle.std.specs.Prelude.{None, Option, Some, is_some}
use Rattle.std.specs.Map.{lookup}
use Rattle.indexmap.proofs.CallerLemmas.{insert_entry-new}
use Rattle.anti_doctor.specs.inner.Findings.{is_known}
use Rattle.anti_doctor.proofs.findings.note.Goals as goal

is_none : (found : Option ℕ) → is_some found ≡ false → found ≡ None
is_none None none = refl
is_none (Some x) none = absurd (cc)

pub returns-in-Ok : goal.returns-in-Ok
returns-in-Ok c =
    let es = c.args.found.now.entries in
    let unknown : is_known c.args.write es ≡ false = sym c.if-contains_key.ensures in
    let none : lookup (nat_eq c.args.write) es ≡ None = is_none (lookup (nat_eq c.args.write) es) unknown in
    c.in-Ok.ensures.entries
    ∙ insert_entry-new nat_eq c.args.found.now c.args.write c.args.read none
    ∙ ap (λ (t : Bool). cond t es (es ++ (c.args.write, c.args.read) ∷ [])) (sym unknown)
