-- What a process has in its hands at each call is what it carries, and it reads and looks in the region of its service.
use Rattle.std.proofs.Common.{◌≡◌, ℕ, List, Some, refl, ap, ◌∙◌, subst}
use Rattle.anti_ids.specs.declared.id.WriteId.{WriteId}
use Rattle.anti_kind.specs.declared.entry.Entry.{Entry}
use Rattle.anti_lang.specs.Program.{Block}
use Rattle.anti_app.specs.declared.app.App.{App}
use Rattle.anti_app.specs.Objects.{region_of}
use Rattle.anti_proc.specs.declared.task.Task.{Task}
use Rattle.anti_proc.specs.Carrying.{HandsOnWhatIsCarried, IsAtHome, OfEachCall}
use Rattle.anti_proc.specs.Local.{Setting}
use Rattle.anti_proc.specs.Meaning.{begun, setting_of, tree_of}
use Rattle.anti_proc.specs.Tasks.{task_of}
use Rattle.anti_proc.proofs.EachCall.{OfEachForm, each_begun}
use Rattle.anti_proc.proofs.Started.{each_task, its_body, started_each}

hands_on : (s : Setting) → OfEachForm s (HandsOnWhatIsCarried s.app)
hands_on s = record {
  write = λ store key value l. refl;
  read = λ store key l. tt;
  scan = λ store prefix l. tt;
  poll = λ store key l. tt;
  look = λ dry planned later l its. its;
  post = λ inbox kind to depth handler value l. refl;
  ack = λ store version l. tt;
  nack = λ store version l. tt;
  take = λ inbox number l. tt;
}

at_home : (s : Setting) → OfEachForm s (IsAtHome s.role.region)
at_home s = record {
  write = λ store key value l. tt;
  read = λ store key l. refl;
  scan = λ store prefix l. refl;
  poll = λ store key l. refl;
  look = λ dry planned later l its. refl;
  post = λ inbox kind to depth handler value l. tt;
  ack = λ store version l. tt;
  nack = λ store version l. tt;
  take = λ inbox number l. tt;
}

pub body_hands_on : (body : Block) (s : Setting) (ids : List WriteId) → OfEachCall (HandsOnWhatIsCarried s.app) (begun body s (Some ids))
body_hands_on body s ids = each_begun (HandsOnWhatIsCarried s.app) s (hands_on s) body ids

pub body_at_home : (body : Block) (s : Setting) (ids : List WriteId) → OfEachCall (IsAtHome s.role.region) (begun body s (Some ids))
body_at_home body s ids = each_begun (IsAtHome s.role.region) s (at_home s) body ids

pub process_hands_on : (app : App) (birth : Entry) → OfEachCall (HandsOnWhatIsCarried app) (tree_of app birth)
process_hands_on app birth =
    started_each (OfEachCall (HandsOnWhatIsCarried app)) app birth (λ end. tt)
    (λ task ids is has. body_hands_on (its_body app task) (setting_of app task) ids)

-- a task's region is that of its service
its_region : (app : App) (birth : Entry) (task : Task) → task_of app birth ≡ Some task → task.role.region ≡ region_of app task.role.service
its_region app birth task starts =
    each_task app birth (λ task. task.role.region ≡ region_of app task.role.service) (λ number m ids is at good states. refl) (λ row sub is at. refl) task starts

pub process_at_home : (app : App) (birth : Entry) (task : Task) → task_of app birth ≡ Some task
    → OfEachCall (IsAtHome (region_of app task.role.service)) (tree_of app birth)
process_at_home app birth task starts =
    started_each (OfEachCall (IsAtHome (region_of app task.role.service))) app birth (λ end. tt)
    (λ other ids is has.
    let same : other ≡ task = cc in
    let region : other.role.region ≡ region_of app task.role.service =
    its_region app birth other is ∙ ap (λ (t : Task). region_of app t.role.service) same in
    subst (λ (home : ℕ). OfEachCall (IsAtHome home) (begun (its_body app other) (setting_of app other) (Some ids))) region
    (body_at_home (its_body app other) (setting_of app other) ids))
