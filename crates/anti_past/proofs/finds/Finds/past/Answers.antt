use Rattle.std.proofs.Common.{◌≡◌, true, false, sym, ◌∙◌, subst}
use Rattle.std.specs.Prelude.{Some, option_map}
use Rattle.law_causal.specs.Settled.{region_named}
use Rattle.anti_past.specs.inner.Found.{has_found}
use Rattle.anti_past.specs.inner.Keys.{read_key}
use Rattle.anti_past.specs.inner.Looking.{all_pass}
use Rattle.anti_past.specs.inner.Walking.{IsHanded}
use Rattle.anti_past.proofs.CameBefore.{read_hands}
use Rattle.anti_past.proofs.InSpan.{read_keyed}
use Rattle.anti_past.proofs.Told.{none_told, read_told}
use Rattle.anti_past.proofs.finds.Finds.past.Goals as goal

pub returns-in_default : goal.returns-in_default
returns-in_default c = λ trace k legal at are handed.
    none_told c.args.app.now trace k c.args.entry.now legal at (sym c.read_key.ensures ∙ c.in_default.is)

pub returns-in_ok-carried-in-Some-handed : goal.returns-in_ok-carried-in-Some-handed
returns-in_ok-carried-in-Some-handed c = λ trace k legal at are handed.
    let app = c.args.app.now in
    let e = c.args.entry.now in
    let span = c.in-Some.span in
    let is : read_key e ≡ Some span = sym c.read_key.ensures ∙ c.in-Some.is in
    let its = subst (IsHanded app trace k e) (λ i. option_map (λ ids. ids.now) (c.in-Some-handed.is i)) handed in
    let region : c.region_named.result ≡ region_named e.call = c.region_named.ensures in
    read_told app trace k e span is c.args.self.now are _ (c.in_ok-carried-in-Some-handed.ensures ∙ its.1)
    (c.all_pass-settled.ensures ∙ λ i. all_pass app (region i) (has_found c.args.self.now span) (its.1 i))

pub returns-in-None : goal.returns-in-None
returns-in-None c = λ trace k legal at are handed.
    let app = c.args.app.now in
    let e = c.args.entry.now in
    let off = subst (IsHanded app trace k e) (λ i. option_map (λ ids. ids.now) (c.in-None.is i)) handed in
    let read = read_keyed e c.in-Some.span (sym c.read_key.ensures ∙ c.in-Some.is) in
    let both : true ≡ false = sym (read_hands e.call read.0) ∙ off in
    absurd (cc)
