use Rattle.std.proofs.Common.{◌∙◌, arith}
use Rattle.anti_topic.specs.TopicStates.{its_store}
use Rattle.anti_topic.proofs.Pulling.{topic_base, pulled_absent, pulled_none, pulled_above, pulled_within}
use Rattle.anti_topic.proofs.topic_store.Topic.was_pulled.Goals as goal

pub returns-in_default : goal.returns-in_default
returns-in_default c = λ h at. pulled_absent c.args.self.now h at c.args.number c.args.version c.in_default.ensures.none

pub returns-then-version-eq0 : goal.returns-then-version-eq0
returns-then-version-eq0 c = λ h at.
    pulled_none c.args.self.now h at c.args.number c.in-Some.sub.now c.in-Some-cursor_at.cursor.now c.in-Some.ensures.found c.in-Some-cursor_at.ensures.found c.args.version (omega arith)

pub returns-then-version-cursor : goal.returns-then-version-cursor
returns-then-version-cursor c = λ h at.
    pulled_above c.args.self.now h at c.args.number c.in-Some.sub.now c.in-Some-cursor_at.cursor.now c.in-Some.ensures.found c.in-Some-cursor_at.ensures.found c.args.version (omega arith)

pub returns : goal.returns
returns c = λ h at.
    c.is_cell.ensures (its_store c.args.self.now) h (topic_base c.args.self.now h at)
    ∙ pulled_within c.args.self.now h at c.args.number c.in-Some.sub.now c.in-Some-cursor_at.cursor.now c.in-Some.ensures.found c.in-Some-cursor_at.ensures.found c.args.version (omega arith) (omega arith)
