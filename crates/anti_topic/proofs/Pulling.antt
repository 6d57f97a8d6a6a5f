-- What a topic tells of its subscriptions: the cell that comes next, and which were pulled.
use Rattle.std.proofs.Common.{◌≡◌, ℕ, ◌+◌, ◌-◌, ◌^◌, ◌<◌, ◌≤◌, min, true, false, ◌&&◌, List, get_or, slice_get, Some, None, refl, sym, ap, ◌∙◌, inl, leb, arith, option_and_then}
use Rattle.std.proofs.lemmas.Bool.{and_left, and_right, le-leb, lt-leb}
use Rattle.std.proofs.lemmas.List.Sums.{count_by-le-length}
use Rattle.std.proofs.lemmas.Option.{slice_get_within, get_or_from_slice_get}
use Rattle.anti_ids.specs.Names.{is_plain}
use Rattle.anti_kind.specs.declared.entry.Entry.{Entry}
use Rattle.anti_kind.specs.declared.store_kind.Sub.{Sub}
use Rattle.anti_kind.specs.declared.store_kind.StoreKind.TheVariants.{Topic as topic_kind}
use Rattle.anti_kind.specs.Stored.{row_of, shows_of}
use Rattle.anti_kind.specs.Store.{is_pull_by, cursor, next, was_pulled, cells, next_of}
use Rattle.anti_kind.specs.Cells.{cell_key, is_cell}
use Rattle.anti_kind.proofs.Cells.{next_cell, if_whole}
use Rattle.anti_kind.proofs.Histories.{few_entries}
use Rattle.anti_kind.proofs.Pulls.{no_sub_pulled, pulled_by_last}
use Rattle.anti_kind.proofs.Rows.{row_of_none}
use Rattle.anti_replicas.specs.Stores.{At as BaseAt}
use Rattle.anti_topic.specs.declared.pull_cursor.PullCursor.{PullCursor}
use Rattle.anti_topic.specs.declared.topic_store.Topic.{Topic}
use Rattle.anti_topic.specs.TopicStates.{its_store, its_start, At}
use Rattle.anti_topic.specs.inner.Cursors.{IsCursor}

module _ (m : Topic) (h : List Entry) (at : At m h) where
  pub topic_base : BaseAt m.base (its_store m) h
  topic_base = record { sane = at.sane; legal = at.legal; state = at.state.base }

  pub few_pulls : (n : ℕ) → cursor h n ≤ 4097
  few_pulls n = omega (arith, count_by-le-length (λ (e : Entry). is_pull_by n e.call) h, few_entries (its_start m) h at.legal)

  -- A subscription that the store has not.

  pub next_absent : (n : ℕ) → slice_get m.subs.items n ≡ None → next (its_store m) h n ≡ row_of h 0
  next_absent n none = ap (option_and_then (next_of false true (its_store m) h n)) none ∙ sym (row_of_none (its_store m) h at.legal 0 (inl refl))

  pub pulled_absent : (n v : ℕ) → slice_get m.subs.items n ≡ None → false ≡ was_pulled h n v
  pulled_absent n v none = sym (no_sub_pulled (its_store m) n none h at.legal v)

  -- A subscription with its cursor.

  module _ (n : ℕ) (sub : Sub) (place : PullCursor) (has : slice_get m.subs.items n ≡ Some sub) (stands : slice_get m.cursors.items n ≡ Some place) where
    come : IsCursor h n sub.channel place
    come = at.state.cursors n sub place has stands

    pub channel_plain : is_plain sub.channel ≡ true
    channel_plain =
        let is : get_or m.subs.items n sub ≡ sub = get_or_from_slice_get m.subs.items n sub sub has in
        ap (λ (x : Sub). is_plain x.channel) (sym is) ∙ (at.sane.subscribed n sub (slice_get_within m.subs.items n sub has)).1

    pub next_number : (number : ℕ) → number ≡ min (place.count + 1) (2 ^ 64 - 1) → number ≡ cursor h n + 1
    next_number number is = omega (arith, come.count, few_pulls n)

    pub number_small : (number : ℕ) → number ≡ min (place.count + 1) (2 ^ 64 - 1) → number < 10 ^ 7
    number_small number is = omega (arith, next_number number is, few_pulls n)

    -- the next cell is what the region shows of its key
    pub next_shown : (number : ℕ) → number ≡ min (place.count + 1) (2 ^ 64 - 1)
        → next (its_store m) h n ≡ row_of h (shows_of topic_kind h sub.region (cell_key sub.channel number))
    next_shown number is =
        let one : number ≡ cursor h n + 1 = next_number number is in
        ap (option_and_then (next_of false true (its_store m) h n)) has
        ∙ ap (λ (i : ℕ). if_whole (its_store m) h sub.region (slice_get (cells h sub.channel) i)) (omega (arith, one))
        ∙ next_cell (its_store m) refl h at.legal sub.region sub.channel channel_plain number (omega (arith, one)) (omega (arith, number_small number is))

    pulled_by : (v : ℕ) → was_pulled h n v ≡ (leb 1 v && (leb v place.last && is_cell h v sub.channel))
    pulled_by v =
        pulled_by_last (its_store m) refl n sub has h at.legal v
        ∙ ap (λ (last : ℕ). leb 1 v && (leb v last && is_cell h v sub.channel)) (sym come.last)

    pub pulled_none : (v : ℕ) → v ≡ 0 → false ≡ was_pulled h n v
    pulled_none v zero' = sym (pulled_by v ∙ and_left (leb 1 v) (leb v place.last && is_cell h v sub.channel) (lt-leb 1 v (omega arith)))

    pub pulled_above : (v : ℕ) → place.last < v → false ≡ was_pulled h n v
    pulled_above v above =
        sym (pulled_by v
        ∙ and_right (leb 1 v) (leb v place.last && is_cell h v sub.channel) (and_left (leb v place.last) (is_cell h v sub.channel) (lt-leb v place.last above)))

    pub pulled_within : (v : ℕ) → 1 ≤ v → v ≤ place.last → is_cell h v sub.channel ≡ was_pulled h n v
    pulled_within v some within =
        let first : leb 1 v ≡ true = le-leb 1 v some in
        let second : leb v place.last ≡ true = le-leb v place.last within in
        sym (pulled_by v ∙ rw (first, second) refl)
