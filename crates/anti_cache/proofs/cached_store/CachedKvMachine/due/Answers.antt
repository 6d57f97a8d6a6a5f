use Rattle.std.proofs.Common.{ℕ, [], ◌∷◌, ◌≡◌, refl, sym, ap, ◌∙◌, unwrap_or}
use Rattle.std.proofs.lemmas.Result.{IfOk-weaker}
use Rattle.anti_ids.specs.List.{plain}
use Rattle.anti_kind.specs.declared.call.Call.{Call}
use Rattle.anti_kind.specs.declared.call.Reply.{Reply}
use Rattle.anti_kind.specs.declared.call.Reply.TheVariants.{Shown}
use Rattle.anti_kind.specs.Store.{absent, store_due}
use Rattle.anti_kind.specs.Stored.{row_of}
use Rattle.anti_cache.specs.CachedStates.{its_store}
use Rattle.anti_cache.proofs.Standing.{base_at}
use Rattle.anti_cache.proofs.cached_store.CachedKvMachine.due.Goals as goal

pub returns-in-Write-clause-due : goal.returns-in-Write-clause-due
returns-in-Write-clause-due c = λ h at.
    let m = c.args.self.now in
    rw (c.in-Write.is, ← c.get.ensures) (c.written.ensures (its_store m) h c.in-Write.value (base_at m h at) refl)

pub returns-in-Look-clause-due : goal.returns-in-Look-clause-due
returns-in-Look-clause-due c = λ h at. rw (c.in-Look.is, ← c.get-in-Look.ensures) (c.look.ensures h at)

pub returns-in-Read-clause-due : goal.returns-in-Read-clause-due
returns-in-Read-clause-due c = λ h at.
    let s = its_store c.args.self.now in
    let key = c.in-Read.key in
    IfOk-weaker c.read_version.result (λ (r : Reply). r ≡ Shown (plain (unwrap_or (row_of h c.shown.result) (absent key) ∷ []))) (λ (r : Reply). r ≡ store_due s h c.args.c.now)
    (λ r is.
    is ∙ ap (λ (v : ℕ). Shown (plain (unwrap_or (row_of h v) (absent key) ∷ []))) (c.shown.ensures h at)
    ∙ ap (λ (call : Call). store_due s h call) (sym c.in-Read.is))
    (c.read_version.ensures s h (base_at c.args.self.now h at))
