-- What came to the span of a process came with the entries of the process: with its birth, or with what it asked for.
use Rattle.std.proofs.Common.{◌≡◌, ℕ, ◌==◌, ◌++◌, Bool, true, false, List, [], ◌∷◌, map, refl, sym, ap, ◌∙◌, eqb-true, inl, inr}
use Rattle.std.specs.Prelude.{Option, Some, None, nat_lt, length, unwrap_or, option_map, option_and_then, if◌then◌else◌}
use Rattle.std.specs.Option.{option_map_or}
use Rattle.std.proofs.lemmas.Bool.{or_cases}
use Rattle.anti_ids.specs.Ids.{has_id, with_ids}
use Rattle.anti_ids.specs.declared.id.WriteId.{WriteId}
use Rattle.anti_ids.specs.declared.limits.TheConstants.{MOST_IDS}
use Rattle.anti_ids.proofs.IdLemmas.{has_id-with_ids}
use Rattle.anti_kind.specs.declared.call.Call.{Call}
use Rattle.anti_kind.specs.declared.call.Call.TheVariants as calls
use Rattle.anti_kind.specs.declared.call.Reply.{Reply}
use Rattle.anti_kind.specs.declared.call.Reply.TheVariants as replies
use Rattle.anti_kind.specs.declared.entry.Entry.{Entry}
use Rattle.anti_kind.specs.declared.message.Message.{Message}
use Rattle.anti_kind.specs.declared.row.Row.{Row}
use Rattle.anti_app.specs.declared.app.App.{App}
use Rattle.anti_app.specs.declared.app.SubDef.{SubDef}
use Rattle.anti_app.specs.declared.objects.ObjectAt.{ObjectAt}
use Rattle.anti_app.specs.declared.objects.ObjectAt.TheVariants.{Store, Inbox}
use Rattle.anti_app.specs.Objects.{object_at}
use Rattle.anti_app.specs.Subs.{sub_on}
use Rattle.anti_proc.specs.declared.task.Role.{Role}
use Rattle.anti_proc.specs.declared.task.Task.{Task}
use Rattle.anti_proc.specs.Brought.{brought_by, came_first, made}
use Rattle.anti_proc.specs.Came.{came}
use Rattle.anti_proc.specs.Stated.{has_stores, stated_lineage}
use Rattle.anti_proc.specs.Local.{row_ids}
use Rattle.anti_proc.specs.Meaning.{reply_of, stated_in}
use Rattle.anti_proc.specs.Tasks.{is_for, role_at, role_in, role_on, task_for, task_with}
use Rattle.anti_proc.specs.Trees.{Tree, Asks, Ends}
use Rattle.anti_trace.specs.Legal.{GoAlong}
use Rattle.law_causal.specs.Words.{brings, comes_with}
use Rattle.law_causal.proofs.Ids.{in_either}

-- ---- what a call brings

module _ (app : App) (w : WriteId) where
  pub came_within : (o : ℕ) (call : Call) (reply : Reply) → has_id w (came app o call reply) ≡ true → has_id w (comes_with app o call reply) ≡ true
  came_within o (calls.Take nth) (replies.Got number m) has = absurd (cc)
  came_within o (calls.Pull sub) (replies.Pulled row) has = absurd (cc)
  came_within o (calls.Repull sub version) (replies.Pulled row) has = absurd (cc)
  came_within o call reply has = has

  -- ---- what a birth brings

  -- the lineage of a task
  abbrev begun_with : Option Task → List WriteId
  begun_with found = option_map_or (λ (task : Task). unwrap_or task.carried []) found []

  if_fitting : (full : Bool) (ids : List WriteId) → has_id w (unwrap_or (if full then None else Some ids) []) ≡ true → has_id w ids ≡ true
  if_fitting true ids has = absurd (cc)
  if_fitting false ids has = has

  of_stated : (role : Role) (m : Message) (found : Option (List WriteId)) → has_id w (begun_with (option_map (task_with role m.value) found)) ≡ true
      → has_id w (unwrap_or found []) ≡ true
  of_stated role m None has = absurd (cc)
  of_stated role m (Some ids) has = if_fitting (nat_lt MOST_IDS (length ids)) ids has

  of_message : (o number : ℕ) (role : Role) (m : Message) (good : Bool)
      → has_id w (begun_with (option_and_then (task_for app o (replies.Got number m)) (if good then Some role else None))) ≡ true
      → has_id w (stated_in app m) ≡ true
  of_message o number role m true has = of_stated role m (stated_lineage app m) has
  of_message o number role m false has = absurd (cc)

  of_row : (o : ℕ) (role : Role) (row : Row) (over : Bool)
      → has_id w (begun_with (if over then Some (task_with role row.value (with_ids (row_ids o row) [])) else None)) ≡ true
      → has_id w (row_ids o row) ≡ true
  of_row o role row true has =
      let all : List WriteId = with_ids (row_ids o row) [] in
      let among : has_id w all ≡ true = if_fitting (nat_lt MOST_IDS (length all)) all has in
      elim (or_cases (has_id w (row_ids o row)) false (sym (has_id-with_ids w (row_ids o row) []) ∙ among)) [ inl here ↦ here | inr none ↦ absurd (cc) ]
  of_row o role row false has = absurd (cc)

  of_sub : (o store : ℕ) (row : Row) (sub : Option SubDef)
      → has_id w (begun_with (option_and_then (task_for app o (replies.Pulled row)) (option_map (role_on app store row.version) sub))) ≡ true
      → has_id w (row_ids o row) ≡ true
  of_sub o store row None has = absurd (cc)
  of_sub o store row (Some sub) has = of_row o (role_on app store row.version sub) row (has_stores app row.lineage) has

  at_inbox : (o service : ℕ) (call : Call) (reply : Reply)
      → has_id w (begun_with (option_and_then (task_for app o reply) (role_at app o (Inbox service) call reply))) ≡ true
      → has_id w (comes_with app o call reply) ≡ true
  at_inbox o service (calls.Take nth) (replies.Got number m) has = of_message o number (role_in app o service number m) m (is_for app service m) has
  at_inbox o service (calls.Take nth) reply has = absurd (cc)
  at_inbox o service call reply has = absurd (cc)

  at_store : (o store : ℕ) (call : Call) (reply : Reply)
      → has_id w (begun_with (option_and_then (task_for app o reply) (role_at app o (Store store) call reply))) ≡ true
      → has_id w (comes_with app o call reply) ≡ true
  at_store o store (calls.Pull sub) (replies.Pulled row) has = of_sub o store row (sub_on app store sub) has
  at_store o store (calls.Pull sub) reply has = absurd (cc)
  at_store o store (calls.Repull sub version) (replies.Pulled row) has = of_sub o store row (sub_on app store sub) has
  at_store o store (calls.Repull sub version) reply has = absurd (cc)
  at_store o store call reply has = absurd (cc)

  at_object : (birth : Entry) (found : Option ObjectAt)
      → has_id w (begun_with (option_and_then (task_for app birth.object birth.reply)
      (option_and_then (λ at. role_at app birth.object at birth.call birth.reply) found))) ≡ true
      → has_id w (brings app birth) ≡ true
  at_object birth None has = absurd (cc)
  at_object birth (Some (Store store)) has = at_store birth.object store birth.call birth.reply has
  at_object birth (Some (Inbox service)) has = at_inbox birth.object service birth.call birth.reply has

  -- What comes first to a process, its birth brings.
  pub first_within : (birth : Entry) → has_id w (came_first app birth) ≡ true → has_id w (brings app birth) ≡ true
  first_within birth has = at_object birth (object_at app birth.object) has

-- ---- what the other entries of a process bring

-- an entry among these brings an id to the span
pub record IsBroughtBy (app : App) (n : ℕ) (w : WriteId) (entries : List Entry) : Type 0 where
  pub before : List Entry
  pub entry : Entry
  pub behind : List Entry
  pub cut : entries ≡ before ++ entry ∷ behind
  pub span : entry.span ≡ n
  pub came : has_id w (brings app entry) ≡ true

module _ (app : App) (n : ℕ) (w : WriteId) where
  one_before : (e : Entry) (es : List Entry) → IsBroughtBy app n w es → IsBroughtBy app n w (e ∷ es)
  one_before e es b = record {
    before = e ∷ b.before;
    entry = b.entry;
    behind = b.behind;
    cut = ap (λ rest. e ∷ rest) b.cut;
    span = b.span;
    came = b.came;
  }

  in_span : (t : Bool) (ids : List WriteId) → has_id w (if t then ids else []) ≡ true → (t ≡ true) × (has_id w ids ≡ true)
  in_span true ids has = (refl, has)
  in_span false ids has = absurd (cc)

  -- What came by the calls of a process that went along these entries, one of them brings.
  pub by_entries : (tree : Tree) (es : List Entry) → GoAlong tree es → has_id w (brought_by app n (made tree (map reply_of es))) ≡ true
      → IsBroughtBy app n w es
  by_entries (Asks ask go) [] along has = absurd (cc)
  by_entries (Asks ask go) (e ∷ es) along has =
      let ids : List WriteId = if ask.span == n then came app ask.object ask.call e.reply else [] in
      let later : List WriteId = brought_by app n (made (go e.reply) (map reply_of es)) in
      elim ((in_either w ids later).0 has) [
        | inl here ↦
            let its = in_span (ask.span == n) (came app ask.object ask.call e.reply) here in
            let same : has_id w (came app e.object e.call e.reply) ≡ has_id w (came app ask.object ask.call e.reply) =
            λ i. has_id w (came app (along.0 i) (along.2 i) e.reply) in
            record {
              before = [];
              entry = e;
              behind = es;
              cut = refl;
              span = along.1 ∙ eqb-true ask.span n its.0;
              came = came_within app w e.object e.call e.reply (same ∙ its.1);
            }
        | inr further ↦ one_before e es (by_entries (go e.reply) es along.3 further)
      ]
  by_entries (Ends end) [] along has = absurd (cc)
  by_entries (Ends end) (e ∷ es) along has = absurd along
