use Rattle.std.proofs.Common.{◌≡◌, ◌<◌, ◌≤◌, ◌++◌, Bool, length, Option, Some, None, Result, Ok, Err, OnOk, OnErr, OnSome, IsSome, sym, ap, ◌∙◌, arith}
use Rattle.std.specs.List.{insert}
use Rattle.anti_queue.specs.inner.Splits.{with_if}
use Rattle.anti_queue.proofs.Places.{found_stays, found_goes, absent_stays, absent_comes, rising}
use Rattle.anti_queue.proofs.free_list.FreeList.set.Goals as goal

on_some : {X : Type 0} {P : Type 0} (o : Option X) → IsSome o → OnSome o P → P
on_some None some holds = absurd (cc)
on_some (Some x) some holds = holds

on_ok : {X E P Q : Type 0} (r : Result X E) → OnOk r P → OnErr r Q → (Q → ⊥) → P
on_ok (Ok x) holds fails never = holds
on_ok (Err e) holds fails never = absurd (never fails)

pub returns-then-not-is_free-clause-items : goal.returns-then-not-is_free-clause-items
returns-then-not-is_free-clause-items c = λ stands below above split.
    let xs = c.args.self.now.versions.items in
    let short : c.in-Ok.place < length xs = omega (arith, c.in-Ok.ensures.bound, c.args.self.now.versions.ok.0) in
    on_some c.remove.result (c.remove.ensures.variant.1 c.in-Ok.ensures.bound) c.remove.ensures.items
    ∙ found_goes xs c.args.version stands below above split c.in-Ok.place short c.in-Ok.ensures.position
    ∙ ap (λ (b : Bool). below ++ with_if b c.args.version above) (sym c.if-not-is_free.true)

pub returns-else-not-is_free-clause-items : goal.returns-else-not-is_free-clause-items
returns-else-not-is_free-clause-items c = λ stands below above split.
    let xs = c.args.self.now.versions.items in
    let short : c.in-Ok.place < length xs = omega (arith, c.in-Ok.ensures.bound, c.args.self.now.versions.ok.0) in
    found_stays xs c.args.version stands below above split c.in-Ok.place short c.in-Ok.ensures.position
    ∙ ap (λ (b : Bool). below ++ with_if b c.args.version above) (sym c.if-not-is_free.false)

pub returns-then-is_free-clause-items : goal.returns-then-is_free-clause-items
returns-then-is_free-clause-items c = λ stands below above split.
    let xs = c.args.self.now.versions.items in
    let within : c.in-Err.place ≤ length xs = omega (arith, c.in-Err.ensures.bound, c.args.self.now.versions.ok.0) in
    let put : c.insert.new.self.items ≡ insert xs c.in-Err.place c.args.version =
    on_ok c.insert.result c.insert.ensures.items c.insert.ensures.full (λ full. absurd (omega (arith, full, c.requires))) in
    put
    ∙ absent_comes xs c.args.version stands below above split c.in-Err.place within (c.in-Err.ensures.position (rising xs c.args.version stands below above split))
    ∙ ap (λ (b : Bool). below ++ with_if b c.args.version above) (sym c.if-is_free.true)

pub returns-else-is_free-clause-items : goal.returns-else-is_free-clause-items
returns-else-is_free-clause-items c = λ stands below above split.
    let xs = c.args.self.now.versions.items in
    let within : c.in-Err.place ≤ length xs = omega (arith, c.in-Err.ensures.bound, c.args.self.now.versions.ok.0) in
    absent_stays xs c.args.version stands below above split c.in-Err.place within (c.in-Err.ensures.position (rising xs c.args.version stands below above split))
    ∙ ap (λ (b : Bool). below ++ with_if b c.args.version above) (sym c.if-is_free.false)
