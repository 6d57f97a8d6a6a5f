-- What a process carries into a call came to the call's span before, or came first.
use Rattle.std.proofs.Common.{◌≡◌, ℕ, ◌==◌, ◌||◌, Bool, true, false, not, eq-eqb, List, [], ◌∷◌, ◌++◌, refl, sym, ap, ◌∙◌, subst, inl, inr}
use Rattle.std.specs.Prelude.{Option, Some, unwrap_or, if◌then◌else◌}
use Rattle.std.specs.Option.{option_map_or}
use Rattle.std.proofs.lemmas.Bool.{or_cases, or_left, or_right}
use Rattle.anti_ids.specs.Ids.{has_id, is_id}
use Rattle.anti_ids.specs.declared.id.WriteId.{WriteId}
use Rattle.anti_ids.proofs.IdLemmas.{among_filter, has_id-with_ids}
use Rattle.anti_kind.specs.declared.entry.Entry.{Entry}
use Rattle.anti_kind.specs.declared.call.Reply.{Reply}
use Rattle.anti_lang.specs.Program.{Block}
use Rattle.anti_app.specs.declared.app.App.{App}
use Rattle.anti_proc.specs.declared.end.BodyEnd.{BodyEnd}
use Rattle.anti_proc.specs.declared.task.Task.{Task}
use Rattle.anti_proc.specs.Brought.{CarriesWhatCame, brought_by, came_first, made}
use Rattle.anti_proc.specs.Came.{came}
use Rattle.anti_proc.specs.Local.{Setting}
use Rattle.anti_proc.specs.Meaning.{begun, setting_of, tree_of}
use Rattle.anti_proc.specs.Tasks.{task_of}
use Rattle.anti_proc.specs.Trees.{Tree, Ask, Asks, Ends, after, ask_of}
use Rattle.anti_proc.proofs.Keeping.{AnyInbox, AnyReply, AnyStore, Good, Keeps, any_duty, any_fits, begun_good}
use Rattle.anti_proc.proofs.Started.{its_body, started_each}

-- which ids came to which span
abbrev Came : Type 0
Came = ℕ → WriteId → Bool

-- these ids came to a span
abbrev AllCame : Came → ℕ → List WriteId → Type 0
AllCame h n ids = (i : WriteId) → has_id i ids ≡ true → h n i ≡ true

its_span : (t : Bool) (ids : List WriteId) (i : WriteId) → t ≡ true → has_id i ids ≡ true → has_id i (if t then ids else []) ≡ true
its_span true ids i same has = has
its_span false ids i same has = absurd (cc)

has_append : (i : WriteId) (xs ys : List WriteId) → has_id i (xs ++ ys) ≡ (has_id i xs || has_id i ys)
has_append i [] ys = refl
has_append i (x ∷ xs) ys = ap (λ (b : Bool). is_id i x || b) (has_append i xs ys) ∙ regroup (is_id i x) (has_id i xs) (has_id i ys)
  where
    regroup : (a b c : Bool) → (a || (b || c)) ≡ ((a || b) || c)
    regroup true b c = refl
    regroup false b c = refl

-- what came before, or by one call more, or by the others
in_turn : (a b c : Bool) → ((a || b) || c) ≡ (a || (b || c))
in_turn true b c = refl
in_turn false b c = refl

module _ (app : App) where
  -- what came by a call, where it was made in the span
  abbrev came_by : Ask → Reply → ℕ → List WriteId
  came_by ask r n = if ask.span == n then came app ask.object ask.call r else []

  abbrev more_came : Came → Ask → Reply → Came
  more_came h ask r n i = h n i || has_id i (came_by ask r n)

  keeps_came : Keeps app Came AllCame AllCame more_came AnyReply
  keeps_came = record {
    none_carried = λ h n i has. absurd (cc);
    with_carried = λ h n ids carried brings carries i has.
        elim (or_cases (has_id i ids) (has_id i carried) (sym (has_append i ids carried) ∙ has)) [
          | inl own ↦ brings i (has_append i ids [] ∙ or_left (has_id i ids) false own)
          | inr old ↦ carries i old
        ];
    none_brought = λ h n i has. absurd (cc);
    added = λ h n further ids brings carries short i has.
        elim (or_cases (has_id i further) (has_id i ids) (sym (has_id-with_ids i further ids) ∙ has)) [ inl new ↦ brings i new | inr old ↦ carries i old ];
    taken_out = λ h n i ids carries k has. carries k (among_filter (λ j. not (is_id i j)) ids k has);
    carried_on = λ h ask r n ids carries i has. or_left (h n i) (has_id i (came_by ask r n)) (carries i has);
    brought_on = λ h ask r n ids brings i has. or_left (h n i) (has_id i (came_by ask r n)) (brings i has);
    comes = λ h ask r fair i has.
        or_right (h ask.span i) (has_id i (came_by ask r ask.span))
        (its_span (ask.span == ask.span) (came app ask.object ask.call r) i (eq-eqb ask.span ask.span refl) has);
  }

  reached : (h : Came) (tree : Tree) (rs : List Reply) (ask : Ask) → Good app AnyStore AnyInbox Came AllCame more_came AnyReply h tree
      → ask_of (after tree rs) ≡ Some ask → (i : WriteId) → has_id i ask.carried ≡ true → (h ask.span i || has_id i (brought_by app ask.span (made tree rs))) ≡ true
  reached h (Asks first go) [] ask good is i has =
      let same : first ≡ ask = cc in
      or_left (h ask.span i) false (subst (λ (a : Ask). AllCame h a.span a.carried) same good.0.2 i has)
  reached h (Asks first go) (r ∷ rs) ask good is i has =
      let ids : List WriteId = came_by first r ask.span in
      ap (λ (b : Bool). h ask.span i || b) (has_append i ids (brought_by app ask.span (made (go r) rs)))
      ∙ sym (in_turn (h ask.span i) (has_id i ids) (has_id i (brought_by app ask.span (made (go r) rs))))
      ∙ reached (more_came h first r) (go r) rs ask (good.1 r tt) is i has
  reached h (Ends end) [] ask good is i has = absurd (cc)
  reached h (Ends end) (r ∷ rs) ask good is i has = reached h (Ends end) rs ask good is i has

-- these came to the first span
abbrev first_came : List WriteId → Came
first_came first n i = has_id i (if n == 1 then first else [])

pub body_carries : (body : Block) (s : Setting) (ids : List WriteId) → CarriesWhatCame s.app ids (begun body s (Some ids))
body_carries body s ids rs ask is i has =
    has_append i (if ask.span == 1 then ids else []) (brought_by s.app ask.span (made (begun body s (Some ids)) rs))
    ∙ reached s.app (first_came ids) (begun body s (Some ids)) rs ask
    (begun_good s AnyStore AnyInbox Came AllCame AllCame (more_came s.app) AnyReply (keeps_came s.app) (any_duty s.app s.role.duty) body (any_fits s.app body) ids
    (first_came ids) (λ k here. here)) is i has

ended_carries : (app : App) (first : List WriteId) (end : BodyEnd) → CarriesWhatCame app first (Ends end)
ended_carries app first end [] ask is i has = absurd (cc)
ended_carries app first end (r ∷ rs) ask is i has = ended_carries app first end rs ask is i has

-- what comes first is what the task carries
its_first : (app : App) (birth : Entry) (task : Task) (ids : List WriteId) → task_of app birth ≡ Some task → task.carried ≡ Some ids
    → came_first app birth ≡ ids
its_first app birth task ids is has =
    ap (λ (found : Option Task). option_map_or (λ (t : Task). unwrap_or t.carried []) found []) is
    ∙ ap (λ (carried : Option (List WriteId)). unwrap_or carried []) has

pub process_carries : (app : App) (birth : Entry) → CarriesWhatCame app (came_first app birth) (tree_of app birth)
process_carries app birth =
    started_each (CarriesWhatCame app (came_first app birth)) app birth (ended_carries app (came_first app birth))
    (λ task ids is has.
    subst (λ (first : List WriteId). CarriesWhatCame app first (begun (its_body app task) (setting_of app task) (Some ids)))
    (sym (its_first app birth task ids is has)) (body_carries (its_body app task) (setting_of app task) ids))
