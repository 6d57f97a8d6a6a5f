use Rattle.std.proofs.Common.{◌≡◌, Some, sym, ap, ◌∙◌}
use Rattle.anti_kind.specs.Stored.{row_of, shows_of}
use Rattle.anti_kind.specs.declared.store_kind.StoreKind.TheVariants.{Topic as topic_kind}
use Rattle.anti_kind.specs.Cells.{cell_key}
use Rattle.anti_topic.specs.TopicStates.{its_store}
use Rattle.anti_topic.proofs.Pulling.{topic_base, next_absent, channel_plain, number_small, next_shown}
use Rattle.anti_topic.proofs.topic_store.Topic.next_version.Goals as goal

pub returns-in_default : goal.returns-in_default
returns-in_default c = λ h at. next_absent c.args.self.now h at c.args.number c.in_default.ensures.none

pub returns-in-Some-cell_key : goal.returns-in-Some-cell_key
returns-in-Some-cell_key c = λ h at.
    let m = c.args.self.now in
    let n = c.args.number in
    let sub = c.in-Some.sub.now in
    let place = c.in-Some-cursor_at.cursor.now in
    let has = c.in-Some.ensures.found in
    let stands = c.in-Some-cursor_at.ensures.found in
    let number = c.saturating_add.result in
    let named : Some c.in-Some-cell_key.key ≡ Some (cell_key sub.channel number) =
    sym c.in-Some-cell_key.is ∙ c.cell_key.ensures (channel_plain m h at n sub place has stands) (number_small m h at n sub place has stands number c.saturating_add.ensures) in
    let key : c.in-Some-cell_key.key ≡ cell_key sub.channel number = cc in
    next_shown m h at n sub place has stands number c.saturating_add.ensures
    ∙ ap (row_of h) (ap (shows_of topic_kind h sub.region) (sym key) ∙ sym (c.shown_version.ensures (its_store m) h (topic_base m h at)))

pub returns-in-None : goal.returns-in-None
returns-in-None c = λ h at.
    let m = c.args.self.now in
    let n = c.args.number in
    let sub = c.in-Some.sub.now in
    let place = c.in-Some-cursor_at.cursor.now in
    let has = c.in-Some.ensures.found in
    let stands = c.in-Some-cursor_at.ensures.found in
    let named = c.cell_key.ensures (channel_plain m h at n sub place has stands) (number_small m h at n sub place has stands c.saturating_add.result c.saturating_add.ensures) in
    let none = c.in-None.is in
    absurd (cc)
