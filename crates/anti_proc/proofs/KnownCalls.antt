-- Each call of a process of a sound application is known, where its message and its replies are.
use Rattle.std.proofs.Common.{◌≡◌, ℕ, ◌≤◌, true, List, ◌&&◌, cond, false, Bool, [], ◌∷◌, ◌++◌, append-nil, length, IsTrue, refl, sym, ap, ◌∙◌, subst, arith, ◌<◌, map}
use Rattle.std.specs.Prelude.{All, IfSome, Option, None, ◌==◌, Result, Some, is_some, nat_lt, unwrap_or}
use Rattle.std.proofs.lemmas.Bool.{and_from, and_parts, lt-ltb, ltb-true}
use Rattle.std.proofs.lemmas.List.{length-map}
use Rattle.std.proofs.lemmas.List.Elements.{All-head, All-tail}
use Rattle.anti_ids.specs.Each.{Each}
use Rattle.anti_ids.specs.Ids.{with_ids}
use Rattle.anti_ids.specs.declared.id.WriteId.{WriteId}
use Rattle.anti_ids.specs.declared.limits.TheConstants.{MOST_IDS}
use Rattle.anti_ids.proofs.IdLemmas.{each_filter, each_with_ids, lineage_ids_of, lineage_with_ids, lineage_without}
use Rattle.anti_kind.specs.declared.call.Call.{Call}
use Rattle.anti_kind.specs.declared.call.Call.TheVariants as calls
use Rattle.anti_kind.specs.declared.entry.Entry.{Entry}
use Rattle.anti_kind.specs.declared.message.Message.{Message}
use Rattle.anti_kind.specs.declared.call.Reply.{Reply}
use Rattle.anti_kind.specs.declared.call.Reply.TheVariants as replies
use Rattle.anti_kind.specs.declared.row.Row.{Row}
use Rattle.anti_baggage.specs.declared.fault.BaggageFault.{BaggageFault}
use Rattle.anti_baggage.specs.Over.{IsIdOver}
use Rattle.anti_baggage.specs.Reading.{read_lineage}
use Rattle.anti_baggage.specs.Texts.{lineage_text}
use Rattle.anti_baggage.proofs.TextLaws.{states_its_lineage}
use Rattle.anti_app.specs.declared.app.App.{App}
use Rattle.anti_app.specs.declared.app.StoreDef.{StoreDef}
use Rattle.anti_app.specs.Sound.{is_sound}
use Rattle.anti_app.proofs.SoundLemmas.{SoundApp, app_known}
use Rattle.anti_proc.specs.Came.{came}
use Rattle.anti_proc.specs.Calls.{IsOfProcess}
use Rattle.anti_proc.specs.declared.task.Task.{Task}
use Rattle.anti_proc.specs.Foreign.{has_baggage}
use Rattle.std.specs.Result.{result_ok}
use Rattle.anti_proc.specs.Known.{AllKnown, IsEntryOf, AreIdsOf, IsCallAt, IsOverApp, IsReplyAt, IsRowOf}
use Rattle.anti_proc.specs.Local.{id_at, row_ids, rows_ids}
use Rattle.anti_proc.specs.Meaning.{begun, setting_of, tree_of, process_after, reply_of}
use Rattle.anti_proc.specs.Tasks.{fitting, task_of}
use Rattle.anti_app.specs.Numbers.{IsStore}
use Rattle.anti_app.specs.Objects.{store_names}
use Rattle.anti_proc.specs.Trees.{Tree, Asks, Ends, Ask, after}
use Rattle.anti_proc.proofs.Keeping.{Good, IsMade, Keeps, begun_good}
use Rattle.anti_proc.proofs.Lineages.{Written, all_fit, each_append, first_stated, none_lineage, stated_over, written_at}
use Rattle.anti_proc.proofs.Owed.{owed_there}
use Rattle.anti_proc.proofs.Placed.{of_process}
use Rattle.anti_proc.proofs.Served.{HasInbox, body_there, stores_named}
use Rattle.anti_proc.proofs.Started.{each_task, its_body, started_each}

-- ---- what is carried and held is over the stores

module _ (app : App) where
  -- whether a call that brings ids of its object is made at a store that is there
  abbrev is_placed : ℕ → Call → Bool
  is_placed o (calls.Write key value lineage) = nat_lt o (length app.stores.items)
  is_placed o (calls.Read region key) = nat_lt o (length app.stores.items)
  is_placed o (calls.Scan region prefix) = nat_lt o (length app.stores.items)
  is_placed o (calls.Poll region key) = nat_lt o (length app.stores.items)
  is_placed o _ = true

  -- whether all calls so far were
  abbrev were_placed : Bool → Ask → Reply → Bool
  were_placed before ask r = before && is_placed ask.object ask.call

  -- a known reply, of whichever object
  abbrev Fair : ℕ → Reply → Type 0
  Fair o r = (from : ℕ) × IsReplyAt app from r

  abbrev Carries : Bool → ℕ → List WriteId → Type 0
  Carries placed n ids = placed ≡ true → IsOverApp app ids

  abbrev Brings : Bool → ℕ → List WriteId → Type 0
  Brings placed n ids = placed ≡ true → AreIdsOf app ids × Written ids

  -- the same key and version have an id at each store
  at_store : (o from : ℕ) (key : List ℕ) (version : ℕ) → nat_lt o (length app.stores.items) ≡ true → AreIdsOf app (id_at from key version) → AreIdsOf app (id_at o key version)
  at_store o from key version there known = by_test (nat_lt 0 version) known
    where
      by_test : (some : Bool) → AreIdsOf app (cond some (record { store = from; key = key; version = version } ∷ []) [])
          → AreIdsOf app (cond some (record { store = o; key = key; version = version } ∷ []) [])
      by_test true known =
          let count : length (store_names app) ≡ length app.stores.items = length-map app.stores.items (λ (s : StoreDef). s.name) in
          let within : o < length app.stores.items = ltb-true o (length app.stores.items) there in
          ((omega arith, known.0.1, known.0.2), tt)
      by_test false known = tt

  rows_known : (o from : ℕ) (rows : List Row) → nat_lt o (length app.stores.items) ≡ true → Each (IsRowOf app from) rows → AreIdsOf app (rows_ids o rows) × Written (rows_ids o rows)
  rows_known o from [] there each = (tt, tt)
  rows_known o from (row ∷ rows) there each =
      let further = rows_known o from rows there each.1 in (
        each_append (IsIdOver (store_names app)) (row_ids o row) (rows_ids o rows)
            (each_append (IsIdOver (store_names app)) (id_at o row.key row.version) row.lineage (at_store o from row.key row.version there each.0.id) each.0.lineage.each) further.0,
        each_append (λ i. 1 ≤ i.version) (row_ids o row) (rows_ids o rows)
            (each_append (λ i. 1 ≤ i.version) (id_at o row.key row.version) row.lineage (written_at o row.key row.version) each.0.lineage.lineage.written) further.1,
      )

  none_over : IsOverApp app []
  none_over = record { lineage = none_lineage; each = tt }

  more_over : (further ids : List WriteId) → AreIdsOf app further × Written further → IsOverApp app ids → length (with_ids further ids) ≤ MOST_IDS → IsOverApp app (with_ids further ids)
  more_over further ids known over short = record {
    lineage = lineage_with_ids further ids (with_ids further ids) known.1 over.lineage refl short;
    each = each_with_ids (IsIdOver (store_names app)) further ids known.0 over.each;
  }

  over_known : (over : Option (List WriteId)) → IfSome over (IsOverApp app) → AreIdsOf app (unwrap_or over []) × Written (unwrap_or over [])
  over_known None known = (tt, tt)
  over_known (Some kept) known = (known.each, known.lineage.written)

  came_known : (o from : ℕ) (call : Call) (r : Reply) → is_placed o call ≡ true → IsReplyAt app from r → AreIdsOf app (came app o call r) × Written (came app o call r)
  came_known o from (calls.Write key value lineage) (replies.Written written version over) there known = (
    each_append (IsIdOver (store_names app)) (id_at o written version) (unwrap_or over []) (at_store o from written version there known.0) (over_known over known.1).0,
    each_append (λ i. 1 ≤ i.version) (id_at o written version) (unwrap_or over []) (written_at o written version) (over_known over known.1).1,
  )
  came_known o from (calls.Read region key) (replies.Shown rows) there known = rows_known o from rows.items there known
  came_known o from (calls.Scan region key) (replies.Shown rows) there known = rows_known o from rows.items there known
  came_known o from (calls.Poll region key) (replies.Shown rows) there known = rows_known o from rows.items there known
  came_known o from (calls.TakeReply number) (replies.Got got m) there known = let over = stated_over app m in (over.each, over.lineage.written)
  came_known o from call r there known = (tt, tt)

  keeps_known : Keeps app Bool Carries Brings were_placed Fair
  keeps_known = record {
    none_carried = λ placed n on. none_over;
    with_carried = λ placed n ids carried brings carries on. (
      each_append (IsIdOver (store_names app)) ids carried (subst (Each (IsIdOver (store_names app))) (append-nil ids) (brings on).0) (carries on).each,
      each_append (λ i. 1 ≤ i.version) ids carried (subst (Each (λ i. 1 ≤ i.version)) (append-nil ids) (brings on).1) (carries on).lineage.written,
    );
    none_brought = λ placed n on. (tt, tt);
    added = λ placed n further ids brings carries short on. more_over further ids (brings on) (carries on) short;
    taken_out = λ placed n i ids carries on.
        record { lineage = lineage_without i ids (carries on).lineage; each = each_filter (IsIdOver (store_names app)) _ ids (carries on).each };
    carried_on = λ placed ask r n ids carries on. carries (and_parts placed (is_placed ask.object ask.call) on).0;
    brought_on = λ placed ask r n ids brings on. brings (and_parts placed (is_placed ask.object ask.call) on).0;
    comes = λ placed ask r fair on. came_known ask.object fair.0 ask.call r (and_parts placed (is_placed ask.object ask.call) on).1 fair.1;
  }

-- ---- each call is known

-- the same as `AllKnown`, where a known reply may come from whichever object
abbrev pub KnownAnyway : App → Tree → Type 0
KnownAnyway app (Asks ask go) =
    IsOfProcess app ask.object ask.span ask.call × IsCallAt app ask.object ask.call × IsOverApp app ask.carried
    × ((from : ℕ) (reply : Reply) → IsReplyAt app from reply → KnownAnyway app (go reply))
KnownAnyway app (Ends end) = Unit {0}

module _ (app : App) (known : SoundApp app) where
  text_read : (m : Message) (ids : List WriteId) → m.baggage.items ≡ lineage_text (store_names app) ids → IsOverApp app ids → has_baggage app m ≡ true
  text_read m ids is over =
      ap (λ (text : List ℕ). is_some (result_ok (read_lineage (store_names app) text))) is
      ∙ ap (λ (found : Result (List WriteId) BaggageFault). is_some (result_ok found)) (states_its_lineage (store_names app) ids (stores_named app known) over)

  call_known : (o : ℕ) (carried : List WriteId) (call : Call) → IsMade app (IsStore app) (HasInbox app) o carried call → IsOverApp app carried → IsCallAt app o call
  call_known o carried (calls.Write key value lineage) made over = (made.1, subst (λ (ids : List WriteId). IsOverApp app ids) (sym made.2) over)
  call_known o carried (calls.Look region ids dry) made over =
      subst (λ (is : List WriteId). IsOverApp app is) (sym made.1)
      (record { lineage = lineage_ids_of o carried over.lineage; each = each_filter (IsIdOver (store_names app)) (λ j. j.store == o) carried over.each })
  call_known o carried (calls.Post m) made over = record { handler = made.0.1; depth = made.1; baggage = text_read m carried made.2 over }
  call_known o carried _ made over = tt

  its_place : (o : ℕ) (carried : List WriteId) (call : Call) → IsMade app (IsStore app) (HasInbox app) o carried call → is_placed app o call ≡ true
  its_place o carried (calls.Write key value lineage) made = lt-ltb o (length app.stores.items) made.0
  its_place o carried (calls.Read region key) made = lt-ltb o (length app.stores.items) made
  its_place o carried (calls.Scan region prefix) made = lt-ltb o (length app.stores.items) made
  its_place o carried (calls.Poll region key) made = lt-ltb o (length app.stores.items) made
  its_place o carried _ made = refl

  all_known : (placed : Bool) (tree : Tree) → placed ≡ true → Good app (IsStore app) (HasInbox app) Bool (Carries app) (were_placed app) (Fair app) placed tree → KnownAnyway app tree
  all_known placed (Asks ask go) on good = (
    of_process app ask.object ask.span ask.carried ask.call good.0.0 good.0.1,
    call_known ask.object ask.carried ask.call good.0.1 (good.0.2 on),
    good.0.2 on,
    λ from reply fair.
        all_known (were_placed app placed ask reply) (go reply) (and_from placed (is_placed app ask.object ask.call) on (its_place ask.object ask.carried ask.call good.0.1))
        (good.1 reply (from, fair)),
  )
  all_known placed (Ends end) on good = tt

  -- ---- what comes first

  row_over : (store : ℕ) (row : Row) (ids : List WriteId) → IsRowOf app store row → fitting (with_ids (row_ids store row) []) ≡ Some ids → IsOverApp app ids
  row_over store row ids is fits =
      let its : List WriteId = with_ids (row_ids store row) [] in
      let fit = all_fit (nat_lt MOST_IDS (length its)) its ids refl fits in
      let stores : AreIdsOf app (row_ids store row) =
      each_append (IsIdOver (store_names app)) (id_at store row.key row.version) row.lineage is.id is.lineage.each in
      let written : Written (row_ids store row) =
      each_append (λ i. 1 ≤ i.version) (id_at store row.key row.version) row.lineage (written_at store row.key row.version) is.lineage.lineage.written in
      subst (λ (ids : List WriteId). IsOverApp app ids) fit.1 (more_over app (row_ids store row) [] (stores, written) (none_over app) fit.0)

  first_over : (birth : Entry) (task : Task) → IsReplyAt app birth.object birth.reply → task_of app birth ≡ Some task
      → (ids : List WriteId) → task.carried ≡ Some ids → IsOverApp app ids
  first_over birth task reply starts =
      each_task app birth (λ task. (ids : List WriteId) → task.carried ≡ Some ids → IsOverApp app ids)
      (λ number m found is at good states ids fits.
      subst (λ (ids : List WriteId). IsOverApp app ids) (all_fit (nat_lt MOST_IDS (length found)) found ids refl fits).1 (first_stated app m found states))
      (λ row sub is at ids fits. row_over birth.object row ids (subst (λ (r : Reply). IsReplyAt app birth.object r) is reply) fits)
      task starts

  started_known : (birth : Entry) → IsReplyAt app birth.object birth.reply → KnownAnyway app (tree_of app birth)
  started_known birth reply =
      started_each (KnownAnyway app) app birth (λ end. tt)
      (λ task ids is has.
      all_known true (begun (its_body app task) (setting_of app task) (Some ids)) refl
      (begun_good (setting_of app task) (IsStore app) (HasInbox app) Bool (Carries app) (Brings app) (were_placed app) (Fair app) (keeps_known app)
      (owed_there app birth task is) (its_body app task) (body_there app known task.role.service task.role.handler) ids true
      (λ on. first_over birth task reply is ids has)))

-- Each call of a process is known, which a known message or row started, also where its replies come from other objects than it asked.
pub tree_known_anyway : (app : App) (birth : Entry) → IsTrue (is_sound app) → IsReplyAt app birth.object birth.reply
    → KnownAnyway app (tree_of app birth)
tree_known_anyway app birth sound reply = started_known app (app_known app sound) birth reply

known_anyway : (app : App) (tree : Tree) → KnownAnyway app tree → AllKnown app tree
known_anyway app (Asks ask go) known = (known.0, known.1, known.2, λ reply fair. known_anyway app (go reply) (known.3 ask.object reply fair))
known_anyway app (Ends end) known = tt

-- so also where they come from those
pub tree_known : (app : App) (birth : Entry) → IsTrue (is_sound app) → IsReplyAt app birth.object birth.reply → AllKnown app (tree_of app birth)
tree_known app birth sound reply = known_anyway app (tree_of app birth) (tree_known_anyway app birth sound reply)

after_anyway : (app : App) (tree : Tree) (entries : List Entry) → All (IsEntryOf app) entries → KnownAnyway app tree → KnownAnyway app (after tree (map reply_of entries))
after_anyway app tree [] entries known = known
after_anyway app (Asks ask go) (e ∷ es) entries known =
    after_anyway app (go e.reply) es (All-tail (IsEntryOf app) e es entries) (known.3 e.object e.reply (All-head (IsEntryOf app) e es entries).reply)
after_anyway app (Ends end) (e ∷ es) entries known = after_anyway app (Ends end) es (All-tail (IsEntryOf app) e es entries) tt

-- a process after its entries, of which the first started it
pub process_known : (app : App) (birth : Entry) (entries : List Entry) → IsTrue (is_sound app) → All (IsEntryOf app) (birth ∷ entries)
    → AllKnown app (process_after app (birth ∷ entries))
process_known app birth entries sound all =
    known_anyway app (process_after app (birth ∷ entries))
    (after_anyway app (tree_of app birth) entries (All-tail (IsEntryOf app) birth entries all)
    (tree_known_anyway app birth sound (All-head (IsEntryOf app) birth entries all).reply))
