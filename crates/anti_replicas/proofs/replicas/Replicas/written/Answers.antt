use Rattle.std.proofs.Common.{◌≡◌, sym, ◌∙◌}
use Rattle.anti_kind.specs.Store.{key_for}
use Rattle.anti_kind.proofs.Overs.{key_keyed}
use Rattle.anti_replicas.proofs.replicas.Replicas.written.Goals as goal

pub returns : goal.returns
returns c = λ s h value at keys.
    let key : c.in_ok-key.key ≡ key_for s.kind h c.args.key.now = c.in_ok-key.ensures ∙ sym (key_keyed s h c.args.key.now keys) in
    let version = c.next_version.ensures s h at in
    let over = c.in_ok-over.ensures s h at in
    cc
