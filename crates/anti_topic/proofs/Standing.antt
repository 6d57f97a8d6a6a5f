-- A topic that made one call more stands for the history with that call.
use Rattle.std.proofs.Common.{◌≡◌, ℕ, zero, suc, ◌+◌, ◌<◌, ◌≤◌, Bool, true, false, cond, List, [], ◌∷◌, ◌++◌, length, get_or, set, replicate, filter, slice_get, Some, refl, sym, ap, ap₂, subst, ◌∙◌, ⊎_elim, ◌==◌, eq-eqb, ne_eqb, eqb-true, arith, option_and_then}
use Rattle.std.proofs.lemmas.Bool.{cases_eq}
use Rattle.std.proofs.lemmas.List.{get_or_append_left, get_or-replicate, get_or-set_same, get_or-set_other, length-set, length-replicate}
use Rattle.std.proofs.lemmas.Option.{slice_get_within, slice_get-get_or, get_or_from_slice_get}
use Rattle.anti_kind.specs.declared.call.Call.{Call}
use Rattle.anti_kind.specs.declared.call.Call.TheVariants.{Write, Scan, Pull}
use Rattle.anti_kind.specs.declared.entry.Entry.{Entry}
use Rattle.anti_kind.specs.declared.row.Row.{Row}
use Rattle.anti_kind.specs.declared.store_kind.Sub.{Sub}
use Rattle.anti_kind.specs.Stored.{wrote, rows, row_of, is_in}
use Rattle.anti_kind.specs.Store.{Store, absent, is_pull, is_pull_by, cursor, next, store_ready, store_due, cells, next_of}
use Rattle.anti_kind.specs.Starts.{topic_store}
use Rattle.anti_kind.specs.Cells.{nth_version, last_pulled}
use Rattle.anti_kind.specs.Objects.{Follows, weight}
use Rattle.anti_kind.proofs.Cells.{cells_more, cells_other}
use Rattle.anti_kind.proofs.Finding.{Found, find_found}
use Rattle.anti_kind.proofs.Handed.{some_there}
use Rattle.anti_kind.proofs.Pulls.{cursor_more, are_pulled, nth_version_is}
use Rattle.anti_kind.proofs.Rows.{is_write}
use Rattle.anti_kind.proofs.Sources.{whole_given}
use Rattle.anti_replicas.specs.declared.replicas.Replicas.{Replicas}
use Rattle.anti_replicas.specs.declared.channels.Channels.{Channels}
use Rattle.anti_replicas.specs.Channels.{Counts}
use Rattle.anti_replicas.specs.Stores.{number_of, regions_of, IsPassing}
use Rattle.anti_replicas.specs.inner.Standing.{Stands}
use Rattle.anti_replicas.proofs.Counting.{counts_other}
use Rattle.anti_topic.specs.declared.pull_cursor.PullCursor.{PullCursor}
use Rattle.anti_topic.specs.declared.topic_store.Topic.{Topic}
use Rattle.anti_topic.specs.TopicStates.{its_store, its_start, TopicStands, At}
use Rattle.anti_topic.specs.inner.Changes.{IsQuiet, MovesOn}
use Rattle.anti_topic.specs.inner.Cursors.{IsCursor, AreCursors, moved}
use Rattle.anti_topic.proofs.Pulling.{few_pulls}

-- the same store, where the base's number and regions and the subscriptions stay
own_store : (m n : Topic) → number_of n.base ≡ number_of m.base → regions_of n.base ≡ regions_of m.base → n.subs.items ≡ m.subs.items → its_store n ≡ its_store m
own_store m n number regions subs = rw (number, regions, subs) refl

none_pulled : PullCursor
none_pulled = record { count = 0; last = 0 }

-- No call was made yet.

pub stands_empty : (m : Topic) → Stands m.base (its_store m) [] → Counts m.channels [] → m.cursors.items ≡ replicate (length m.subs.items) (record { count = 0; last = 0 }) → TopicStands m []
stands_empty m base counts are = record {
  base = base;
  counts = counts;
  many = ap (λ (cs : List PullCursor). length cs) are ∙ length-replicate (length m.subs.items) _;
  cursors = first;
} where
  first : AreCursors m.subs.items m.cursors.items []
  first n sub place has stands =
      let short : n < length m.subs.items = slice_get_within m.subs.items n sub has in
      let blank : PullCursor = record { count = 0; last = 0 } in
      let is : place ≡ blank =
      sym (get_or_from_slice_get m.cursors.items n place blank stands)
      ∙ ap (λ (cs : List PullCursor). get_or cs n blank) are ∙ get_or-replicate (length m.subs.items) n blank blank short in
      record { count = ap (λ (x : PullCursor). x.count) is; last = ap (λ (x : PullCursor). x.last) is }

-- An entry that is no pull of a subscription leaves its cursor.

nth_kept : (xs ys : List Row) (n : ℕ) → n ≤ length xs → nth_version (xs ++ ys) n ≡ nth_version xs n
nth_kept xs ys zero within = refl
nth_kept xs ys (suc i) within = ap (λ (r : Row). r.version) (get_or_append_left xs ys (absent []) i (omega arith))

pulls_none : (n : ℕ) (c : Call) → is_pull c ≡ false → is_pull_by n c ≡ false
pulls_none n (Pull sub) off = absurd (cc)
pulls_none n _ off = refl

module _ (m : Topic) (h : List Entry) (e : Entry) (at : At m h) (f : Follows (its_start m) h e) where
  cursor_kept : (n : ℕ) (sub : Sub) (place : PullCursor) → slice_get m.subs.items n ≡ Some sub → is_pull_by n e.call ≡ false → IsCursor h n sub.channel place → IsCursor (h ++ e ∷ []) n sub.channel place
  cursor_kept n sub place has off was =
      let new : List Row = filter (is_in sub.channel) (wrote e.call e.reply) in
      let more : cursor (h ++ e ∷ []) n ≡ cursor h n + 0 = cursor_more h e n ∙ ap (λ (b : Bool). cursor h n + cond b 1 0) off in
      let same : cursor (h ++ e ∷ []) n ≡ cursor h n = omega arith in
      let kept : last_pulled (h ++ e ∷ []) n sub.channel ≡ last_pulled h n sub.channel =
      ap₂ (λ (rs : List Row) (k : ℕ). nth_version rs k) (cells_more h e sub.channel) same
      ∙ nth_kept (cells h sub.channel) new (cursor h n) (are_pulled (its_store m) refl n sub has h at.legal).within in
      record { count = was.count ∙ sym same; last = was.last ∙ sym kept }

  -- an entry that is no pull, after which the base and the channels stand
  pub stands_with : is_pull e.call ≡ false → (base : Replicas) (channels : Channels) → number_of base ≡ number_of m.base → regions_of base ≡ regions_of m.base
      → Stands base (its_store m) (h ++ e ∷ []) → Counts channels (h ++ e ∷ []) → TopicStands (record m { base = base; channels = channels }) (h ++ e ∷ [])
  stands_with off base channels number regions stands counts = record {
    base = subst (λ (s : Store). Stands base s (h ++ e ∷ [])) (sym (own_store m (record m { base = base; channels = channels }) number regions refl)) stands;
    counts = counts;
    many = at.state.many;
    cursors = λ n sub place has is. cursor_kept n sub place has (pulls_none n e.call off) (at.state.cursors n sub place has is);
  }

  -- one that is no write either, after which the base stands
  pub stands_beside : is_write e.call ≡ false → is_pull e.call ≡ false → (base : Replicas) → number_of base ≡ number_of m.base → regions_of base ≡ regions_of m.base
      → Stands base (its_store m) (h ++ e ∷ []) → TopicStands (record m { base = base }) (h ++ e ∷ [])
  stands_beside writes pulls base number regions stands = stands_with pulls base m.channels number regions stands (counts_other m.channels h e writes at.state.counts)

  -- A pull moves its cursor on.

  module _ (number version : ℕ) (is : e.call ≡ Pull number) (next_is : next (its_store m) h number ≡ row_of h version) where
    the_next : (r : Row) × (next (its_store m) h number ≡ Some r)
    the_next = some_there (next (its_store m) h number) (ap (λ (c : Call). store_ready (its_store m) h c) (sym is) ∙ f.is_ready)

    cursor_moved : (sub : Sub) (place : PullCursor) → slice_get m.subs.items number ≡ Some sub → IsCursor h number sub.channel place
        → IsCursor (h ++ e ∷ []) number sub.channel (moved place version)
    cursor_moved sub place has was =
        let r : Row = the_next.0 in
        let rs : List Row = cells h sub.channel in
        let i : ℕ = cursor h number in
        let found : Found (λ (x : Row). x.version == version) (rows h) r = find_found (λ (x : Row). x.version == version) (rows h) r (sym next_is ∙ the_next.1) in
        let cell : slice_get rs i ≡ Some r = whole_given (its_store m) h sub.region (slice_get rs i) r (ap (option_and_then (next_of false true (its_store m) h number)) (sym has) ∙ the_next.1) in
        let up : cursor (h ++ e ∷ []) number ≡ i + 1 =
        cursor_more h e number ∙ ap (λ (c : Call). i + cond (is_pull_by number c) 1 0) is ∙ ap (λ (b : Bool). i + cond b 1 0) (eq-eqb number number refl) in
        let last : last_pulled (h ++ e ∷ []) number sub.channel ≡ version =
        ap₂ (λ (xs : List Row) (k : ℕ). nth_version xs k) (cells_other h e sub.channel (ap is_write is)) up
        ∙ nth_version_is rs (i + 1) (omega arith)
        ∙ ap (λ (k : ℕ). (get_or rs k (absent [])).version) (omega arith)
        ∙ ap (λ (x : Row). x.version) (get_or_from_slice_get rs i r (absent []) cell)
        ∙ eqb-true r.version version found.passes in
        record { count = omega (arith, was.count, up, few_pulls m h at number); last = sym last }

    module _ (n : Topic) (moves : MovesOn m n number version) where
      abbrev stood : PullCursor
      stood = get_or m.cursors.items number none_pulled

      abbrev stands_now : PullCursor
      stands_now = moved stood version

      cursors_moved : AreCursors m.subs.items (set m.cursors.items number stands_now) (h ++ e ∷ [])
      cursors_moved k sub place has stands =
          let short : k < length m.cursors.items = omega (arith, slice_get_within m.subs.items k sub has, at.state.many) in
          let was : get_or (set m.cursors.items number stands_now) k none_pulled ≡ place = get_or_from_slice_get (set m.cursors.items number stands_now) k place none_pulled stands in
          ⊎_elim (λ (same : k ≡ number).
          let has' : slice_get m.subs.items number ≡ Some sub = ap (slice_get m.subs.items) (sym same) ∙ has in
          let within : number < length m.cursors.items = omega arith in
          let now : stands_now ≡ place = sym (ap (λ (x : ℕ). get_or (set m.cursors.items number stands_now) x none_pulled) same ∙ get_or-set_same m.cursors.items number stands_now none_pulled within) ∙ was in
          let before : IsCursor h number sub.channel stood = at.state.cursors number sub stood has' (slice_get-get_or m.cursors.items number none_pulled within) in
          subst (λ (x : PullCursor). IsCursor (h ++ e ∷ []) k sub.channel x) now
          (subst (λ (x : ℕ). IsCursor (h ++ e ∷ []) x sub.channel stands_now) (sym same) (cursor_moved sub stood has' before)))
          (λ (other : k ≡ number → ⊥).
          let was_there : slice_get m.cursors.items k ≡ Some place =
          slice_get-get_or m.cursors.items k none_pulled short ∙ ap (λ (x : PullCursor). Some x) (sym (get_or-set_other m.cursors.items number k stands_now none_pulled other) ∙ was) in
          cursor_kept k sub place has (ap (is_pull_by k) is ∙ ne_eqb number k (λ x. other (sym x))) (at.state.cursors k sub place has was_there))
          (cases_eq k number)

      pub stands_pull : (base : Replicas) → number_of base ≡ number_of n.base → regions_of base ≡ regions_of n.base → Stands base (its_store m) (h ++ e ∷ []) → TopicStands (record n { base = base }) (h ++ e ∷ [])
      stands_pull base number_is regions_are stands = record {
        base = subst (λ (s : Store). Stands base s (h ++ e ∷ []))
            (sym (own_store m (record n { base = base }) (number_is ∙ ap (λ (b : Replicas). number_of b) moves.base_is) (regions_are ∙ ap (λ (b : Replicas). regions_of b) moves.base_is) (ap (λ (v : _). v.items) moves.subs_are))) stands;
        counts = subst (λ (c : Channels). Counts c (h ++ e ∷ [])) (sym moves.channels_are) (counts_other m.channels h e (ap is_write is) at.state.counts);
        many = ap (λ (cs : List PullCursor). length cs) (moves.cursors_are none_pulled) ∙ length-set m.cursors.items number stands_now ∙ at.state.many ∙ sym (ap (λ (v : _). length v.items) moves.subs_are);
        cursors =
            subst (λ (cs : List PullCursor). AreCursors n.subs.items cs (h ++ e ∷ [])) (sym (moves.cursors_are none_pulled))
            (subst (λ (subs : List Sub). AreCursors subs (set m.cursors.items number stands_now) (h ++ e ∷ [])) (sym (ap (λ (v : _). v.items) moves.subs_are)) cursors_moved);
      }

-- Every other entry writes and pulls nothing, and weighs one.

pub quiet_writes : (c : Call) → IsQuiet c → is_write c ≡ false
quiet_writes (Write key value lineage) quiet = absurd quiet
quiet_writes _ quiet = refl

pub quiet_pulls : (c : Call) → IsQuiet c → is_pull c ≡ false
quiet_pulls (Pull sub) quiet = absurd quiet
quiet_pulls _ quiet = refl

pub quiet_passing : (c : Call) → IsQuiet c → IsPassing c
quiet_passing (Write key value lineage) quiet = absurd quiet
quiet_passing _ quiet = tt

due_weighs : (number : ℕ) (regions : List ℕ) (subs : List Sub) (h : List Entry) (c : Call) → IsQuiet c → store_ready (topic_store number regions subs) h c ≡ true → weight (store_due (topic_store number regions subs) h c) ≡ 1
due_weighs number regions subs h (Write key value lineage) quiet on = absurd quiet
due_weighs number regions subs h (Pull sub) quiet on = absurd quiet
due_weighs number regions subs h (Scan region prefix) quiet on = absurd (cc)
due_weighs number regions subs h _ quiet on = refl

pub weighs_one : (m : Topic) (h : List Entry) (e : Entry) → Follows (its_start m) h e → IsQuiet e.call → weight e.reply ≡ 1
weighs_one m h e f quiet = ap weight f.reply ∙ due_weighs (number_of m.base) (regions_of m.base) m.subs.items h e.call quiet f.is_ready
