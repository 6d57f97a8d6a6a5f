-- What a process carries is a lineage.
use Rattle.std.proofs.Common.{◌≡◌, ℕ, ◌≤◌, Bool, true, false, cond, List, [], ◌∷◌, ◌++◌, append-nil, refl, subst, arith}
use Rattle.std.specs.Prelude.{Option, Some, None, IfSome, Result, Ok, Err, length, nat_lt, unwrap_or, if◌then◌else◌}
use Rattle.std.specs.Result.{result_ok}
use Rattle.std.proofs.lemmas.Bool.Decides.{nat_tests}
use Rattle.anti_ids.specs.Each.{Each}
use Rattle.anti_ids.specs.Invariants.{IsLineage}
use Rattle.anti_ids.specs.Ids.{with_ids}
use Rattle.anti_ids.specs.declared.limits.TheConstants.{MOST_IDS}
use Rattle.anti_ids.specs.declared.id.WriteId.{WriteId}
use Rattle.anti_ids.proofs.IdLemmas.{lineage_with_ids, lineage_without}
use Rattle.anti_kind.specs.declared.call.Call.{Call}
use Rattle.anti_kind.specs.declared.call.Call.TheVariants as calls
use Rattle.anti_kind.specs.declared.entry.Entry.{Entry}
use Rattle.anti_kind.specs.declared.message.Message.{Message}
use Rattle.anti_kind.specs.declared.call.Reply.{Reply}
use Rattle.anti_kind.specs.declared.call.Reply.TheVariants as replies
use Rattle.anti_kind.specs.declared.row.Row.{Row}
use Rattle.anti_lang.specs.Program.{Block}
use Rattle.anti_baggage.specs.declared.fault.BaggageFault.{BaggageFault}
use Rattle.anti_baggage.specs.Over.{IsOver}
use Rattle.anti_baggage.specs.Reading.{read_lineage}
use Rattle.anti_baggage.proofs.TextLaws.{is_its_text}
use Rattle.anti_app.specs.declared.app.App.{App}
use Rattle.anti_proc.specs.declared.end.BodyEnd.{BodyEnd}
use Rattle.anti_proc.specs.declared.task.Task.{Task}
use Rattle.anti_proc.specs.Brought.{CarriesLineages, HasLineages}
use Rattle.anti_proc.specs.Came.{came}
use Rattle.anti_proc.specs.Stated.{stated_lineage}
use Rattle.anti_proc.specs.Known.{IsOverApp}
use Rattle.anti_proc.specs.Local.{Setting, id_at, row_ids, rows_ids}
use Rattle.anti_proc.specs.Meaning.{begun, setting_of, stated_in, tree_of}
use Rattle.anti_proc.specs.Tasks.{fitting, task_of}
use Rattle.anti_app.specs.Objects.{store_names}
use Rattle.anti_proc.specs.Trees.{Tree, Ask, Asks, Ends, after, ask_of}
use Rattle.anti_proc.proofs.Started.{each_task, its_body, started_each}
use Rattle.anti_proc.proofs.Keeping.{AnyInbox, AnyStore, Good, Keeps, any_duty, any_fits, begun_good, nothing_more}

-- ---- ids of writes

abbrev pub Written : List WriteId → Type 0
Written ids = Each (λ i. 1 ≤ i.version) ids

written_if : (t : Bool) (i : WriteId) → t ≡ nat_lt 0 i.version → Written (cond t (i ∷ []) [])
written_if true i t = let written : 1 ≤ i.version = grind (arith, nat_tests) in (written, tt)
written_if false i t = tt

pub written_at : (store : ℕ) (key : List ℕ) (version : ℕ) → Written (id_at store key version)
written_at store key version = written_if (nat_lt 0 version) (record { store = store; key = key; version = version }) refl

pub each_append : (P : WriteId → Type 0) (xs ys : List WriteId) → Each P xs → Each P ys → Each P (xs ++ ys)
each_append P [] ys left right = right
each_append P (x ∷ xs) ys left right = (left.0, each_append P xs ys left.1 right)

-- ---- what is carried

abbrev Carries : Unit {0} → ℕ → List WriteId → Type 0
Carries h n ids = IsLineage ids

abbrev Brings : Unit {0} → ℕ → List WriteId → Type 0
Brings h n ids = Written ids

abbrev Fair : ℕ → Reply → Type 0
Fair o r = HasLineages r

pub none_lineage : IsLineage []
none_lineage = record { ascending = tt; written = tt; short = omega arith }

rows_written : (store : ℕ) (rows : List Row) → Each (λ row. IsLineage row.lineage) rows → Written (rows_ids store rows)
rows_written store [] each = tt
rows_written store (row ∷ rows) each =
    each_append (λ i. 1 ≤ i.version) (row_ids store row) (rows_ids store rows)
    (each_append (λ i. 1 ≤ i.version) (id_at store row.key row.version) row.lineage (written_at store row.key row.version) each.0.written) (rows_written store rows each.1)

reached : (app : App) (tree : Tree) (rs : List Reply) (ask : Ask) → Good app AnyStore AnyInbox (Unit {0}) Carries nothing_more Fair tt tree → Each HasLineages rs
    → ask_of (after tree rs) ≡ Some ask → IsLineage ask.carried
reached app (Asks first go) [] ask good each is =
    let same : first ≡ ask = cc in
    subst (λ (a : Ask). IsLineage a.carried) same good.0.2
reached app (Asks first go) (r ∷ rs) ask good each is = reached app (go r) rs ask (good.1 r each.0) each.1 is
reached app (Ends end) [] ask good each is = absurd (cc)
reached app (Ends end) (r ∷ rs) ask good each is = reached app (Ends end) rs ask good each.1 is

ended_lineages : (end : BodyEnd) → CarriesLineages (Ends end)
ended_lineages end [] ask each is = absurd (cc)
ended_lineages end (r ∷ rs) ask each is = ended_lineages end rs ask each.1 is

over_found : (stores : List (List ℕ)) (text : List ℕ) (found : Result (List WriteId) BaggageFault) → read_lineage stores text ≡ found
    → IsOver stores (unwrap_or (result_ok found) [])
over_found stores text (Ok ids) is = (is_its_text stores text ids is).0
over_found stores text (Err fault) is = record { lineage = none_lineage; each = tt }

-- what a text states is over the stores
pub stated_over : (app : App) (m : Message) → IsOverApp app (stated_in app m)
stated_over app m = over_found (store_names app) m.baggage.items (read_lineage (store_names app) m.baggage.items) refl

pub first_stated : (app : App) (m : Message) (ids : List WriteId) → stated_lineage app m ≡ Some ids → IsOverApp app ids
first_stated app m ids states =
    subst (λ (found : Option (List WriteId)). IsOverApp app (unwrap_or found [])) states (stated_over app m)

over_written : (over : Option (List WriteId)) → IfSome over IsLineage → Written (unwrap_or over [])
over_written None has = tt
over_written (Some kept) has = has.written

came_written : (app : App) (o : ℕ) (call : Call) (r : Reply) → HasLineages r → Written (came app o call r)
came_written app o (calls.Write key value lineage) (replies.Written written version over) has =
    each_append (λ i. 1 ≤ i.version) (id_at o written version) (unwrap_or over []) (written_at o written version) (over_written over has)
came_written app o (calls.Read region key) (replies.Shown rows) has = rows_written o rows.items has
came_written app o (calls.Scan region key) (replies.Shown rows) has = rows_written o rows.items has
came_written app o (calls.Poll region key) (replies.Shown rows) has = rows_written o rows.items has
came_written app o (calls.TakeReply number) (replies.Got got m) has = (stated_over app m).lineage.written
came_written app o call reply has = tt

keeps_lineages : (app : App) → Keeps app (Unit {0}) Carries Brings nothing_more Fair
keeps_lineages app = record {
  none_carried = λ h n. none_lineage;
  with_carried = λ h n ids carried brings carries. each_append (λ i. 1 ≤ i.version) ids carried (subst (Each (λ i. 1 ≤ i.version)) (append-nil ids) brings) carries.written;
  none_brought = λ h n. tt;
  added = λ h n further ids brings carries short. lineage_with_ids further ids _ brings carries refl short;
  taken_out = λ h n i ids carries. lineage_without i ids carries;
  carried_on = λ h ask r n ids carries. carries;
  brought_on = λ h ask r n ids brings. brings;
  comes = λ h ask r fair. came_written app ask.object ask.call r fair;
}

pub body_lineages : (body : Block) (s : Setting) (ids : List WriteId) → IsLineage ids → CarriesLineages (begun body s (Some ids))
body_lineages body s ids lineage rs ask each is =
    reached s.app (begun body s (Some ids)) rs ask
    (begun_good s AnyStore AnyInbox (Unit {0}) Carries Brings nothing_more Fair (keeps_lineages s.app) (any_duty s.app s.role.duty) body (any_fits s.app body) ids tt
    lineage) each is

-- ---- what comes first

-- ids that fit are as many as a lineage may have
pub all_fit : (full : Bool) (ids fits : List WriteId) → full ≡ nat_lt MOST_IDS (length ids) → (if full then None else Some ids) ≡ Some fits
    → (length ids ≤ MOST_IDS) × (ids ≡ fits)
all_fit true ids fits full is = absurd (cc)
all_fit false ids fits full is =
    let short : length ids ≤ MOST_IDS = grind (arith, nat_tests) in
    let same : ids ≡ fits = cc in
    (short, same)

row_lineage : (store : ℕ) (row : Row) (ids : List WriteId) → IsLineage row.lineage → fitting (with_ids (row_ids store row) []) ≡ Some ids → IsLineage ids
row_lineage store row ids lineage fits =
    let its : List WriteId = with_ids (row_ids store row) [] in
    let fit = all_fit (nat_lt MOST_IDS (length its)) its ids refl fits in
    let written : Written (row_ids store row) =
    each_append (λ i. 1 ≤ i.version) (id_at store row.key row.version) row.lineage (written_at store row.key row.version) lineage.written in
    subst IsLineage fit.1 (lineage_with_ids (row_ids store row) [] its written none_lineage refl fit.0)

first_lineage : (app : App) (birth : Entry) (task : Task) → HasLineages birth.reply → task_of app birth ≡ Some task
    → (ids : List WriteId) → task.carried ≡ Some ids → IsLineage ids
first_lineage app birth task lineages starts =
    each_task app birth (λ task. (ids : List WriteId) → task.carried ≡ Some ids → IsLineage ids)
    (λ number m found is at good states ids fits.
    subst IsLineage (all_fit (nat_lt MOST_IDS (length found)) found ids refl fits).1 (first_stated app m found states).lineage)
    (λ row sub is at ids fits. row_lineage birth.object row ids (subst HasLineages is lineages) fits)
    task starts

pub process_lineages : (app : App) (birth : Entry) → HasLineages birth.reply → CarriesLineages (tree_of app birth)
process_lineages app birth lineages =
    started_each CarriesLineages app birth ended_lineages
    (λ task ids is has. body_lineages (its_body app task) (setting_of app task) ids (first_lineage app birth task lineages is ids has))
