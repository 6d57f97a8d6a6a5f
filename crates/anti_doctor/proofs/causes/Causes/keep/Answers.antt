use Rattle.std.proofs.Common.{◌≡◌, ℕ, ◌||◌, ◌++◌, true, List, [], ◌∷◌, length, sym, ap, ◌∙◌}
use Rattle.std.specs.Prelude.{◌==◌}
use Rattle.law_causal.specs.Words.{wrote}
use Rattle.law_serial.specs.Order.{is_some_id}
use Rattle.anti_order.specs.inner.NumberSets.{has}
use Rattle.anti_doctor.proofs.Passing.{keeps_own}
use Rattle.anti_doctor.proofs.causes.Causes.keep.Goals as goal

pub returns : goal.returns
returns c =
    let causes = c.args.self.now in
    let set = c.args.set.now in
    let own : List ℕ = c.insert.new.self in
    let count : c.len.result ≡ length causes.kept.items = c.len.ensures ∙ causes.kept.ok.0 in
    let write : is_some_id (wrote c.args.entry.now) ≡ true = sym c.is_write.ensures ∙ c.if-not-is_write.false in
    keeps_own causes c.push.new.self set own
    (c.in_ok-push.ensures.items ∙ ap (λ (it : List ℕ). causes.kept.items ++ it ∷ []) c.in_ok-own.ensures) c.requires.ready
    (λ n low. c.insert.ensures.added n low ∙ ap (λ (m : ℕ). (n == m) || has set n) count) c.insert.ensures.room c.args.entry.now write
