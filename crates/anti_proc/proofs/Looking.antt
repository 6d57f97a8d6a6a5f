-- How a barrier goes from look to look.
use Rattle.std.proofs.Common.{◌≡◌, ℕ, ◌&&◌, Bool, List, [], ◌∷◌, length, refl, ap, ◌∙◌, arith}
use Rattle.std.specs.Prelude.{Some, slice_get}
use Rattle.anti_ids.specs.Ids.{has_id}
use Rattle.anti_ids.specs.declared.id.WriteId.{WriteId}
use Rattle.anti_kind.specs.declared.call.Call.TheVariants as calls
use Rattle.anti_kind.specs.declared.call.Reply.{Reply}
use Rattle.anti_shim.specs.declared.looks.PlannedLook.{PlannedLook}
use Rattle.anti_proc.specs.Barriers.{LooksOnceAt, AsksFor, GoesOver}
use Rattle.anti_proc.specs.Local.{Setting, Local}
use Rattle.anti_proc.specs.Meaning.{Go, looks, planned}
use Rattle.anti_app.specs.Objects.{stores_here}
use Rattle.anti_proc.specs.Trees.{Make, after}
use Rattle.anti_proc.specs.Asked.{next_of}
use Rattle.anti_proc.proofs.Plans.{among_here, its_look, one_look, asked_of}

-- after so many replies it makes the look of that number
makes_look : (region : ℕ) (dry : Bool) (further : List PlannedLook) (l : Local) (go : Go) (replies : List Reply) (look : PlannedLook)
    → slice_get further (length replies) ≡ Some look → next_of (looks region dry further l go) replies ≡ Make look.store l.span (calls.Look region look.ids dry)
makes_look region dry [] l go replies look at = absurd (cc)
makes_look region dry (first ∷ later) l go [] look at =
    let is : first ≡ look = cc in ap (λ (x : PlannedLook). Make x.store l.span (calls.Look region x.ids dry)) is
makes_look region dry (first ∷ later) l go (reply ∷ replies) look at = makes_look region dry later l go replies look at

-- after a reply to each it goes on
goes_on : (region : ℕ) (dry : Bool) (further : List PlannedLook) (l : Local) (go : Go) (replies : List Reply)
    → length replies ≡ length further → after (looks region dry further l go) replies ≡ go l
goes_on region dry [] l go [] e = refl
goes_on region dry [] l go (reply ∷ replies) e = absurd (omega arith)
goes_on region dry (first ∷ later) l go [] e = absurd (omega arith)
goes_on region dry (first ∷ later) l go (reply ∷ replies) e = goes_on region dry later l go replies (omega arith)

pub goes_over : (s : Setting) (l : Local) (dry : Bool) → GoesOver s l dry (looks s.role.region dry (planned s l) l)
goes_over s l dry go replies =
    (makes_look s.role.region dry (planned s l) l go replies, goes_on s.role.region dry (planned s l) l go replies)

pub looks_once_at : (s : Setting) (l : Local) (store : ℕ) → LooksOnceAt s l store
looks_once_at s l store =
    one_look s.role.region 0 store s.app.stores.items l.carried
    ∙ ap (λ (b : Bool). its_look b store l.carried) (among_here s.role.region 0 store store s.app.stores.items (omega arith))

pub asks_for : (s : Setting) (l : Local) (i : WriteId) → AsksFor s l i
asks_for s l i =
    asked_of i (stores_here s.app s.role.region) l.carried
    ∙ ap (λ (b : Bool). b && has_id i l.carried) (among_here s.role.region 0 i.store i.store s.app.stores.items (omega arith))
