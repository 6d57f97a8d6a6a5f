use Rattle.std.proofs.Common.{sym, ap, leb}
use Rattle.anti_replicas.proofs.replicas.Replicas.sight.Goals as goal

pub returns-in-Some : goal.returns-in-Some
returns-in-Some c = record {
  written = λ s h at. sym (c.in-Some.ensures.some s h at).0;
  visible = λ s h at. ap (leb c.args.id.now.version) (c.version_at.ensures s h c.args.id.now.key at (c.in-Some.ensures.some s h at).1);
}
