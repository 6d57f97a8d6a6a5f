-- The front of a legal trace is a legal trace.
use Rattle.std.proofs.Common.{◌≡◌, ◌<◌, ◌++◌, List, [], ◌∷◌, refl, ap, ◌∙◌, subst, append_assoc}
use Rattle.std.specs.Prelude.{All, IsTrue}
use Rattle.std.proofs.lemmas.List.Elements.{All-nil, All-cons, All-head, All-tail, filter-append}
use Rattle.anti_kind.specs.declared.actor.Actor.{Actor}
use Rattle.anti_kind.specs.declared.actor.Actor.TheVariants.{Carrier, Process, Newborn}
use Rattle.anti_kind.specs.declared.actor.Birth.{Birth}
use Rattle.anti_kind.specs.declared.entry.Entry.{Entry}
use Rattle.anti_kind.specs.Objects.{IsLegal}
use Rattle.anti_kind.proofs.Histories.{legal_front as history_front}
use Rattle.anti_app.specs.declared.app.App.{App}
use Rattle.anti_app.specs.Objects.{object_count}
use Rattle.anti_proc.specs.Meaning.{tree_of}
use Rattle.anti_proc.specs.Trees.{Tree, Asks, Ends}
use Rattle.anti_trace.specs.Traces.{IsTrace, comes_before, entries_by, entries_on, is_by, is_on}
use Rattle.anti_trace.specs.Legal.{GoAlong, IsCarried, IsLegalTrace, IsLife, IsOfActor}

all_front : (P : Entry → Type 0) (xs ys : List Entry) → All P (xs ++ ys) → All P xs
all_front P [] ys all = All-nil P
all_front P (x ∷ xs) ys all = All-cons P x xs (All-head P x (xs ++ ys) all) (all_front P xs ys (All-tail P x (xs ++ ys) all))

order_front : (xs ys : List Entry) → IsTrace (xs ++ ys) → IsTrace xs
order_front [] ys order = tt
order_front (x ∷ xs) ys order = (all_front (λ d. IsTrue (comes_before x d)) xs ys order.0, order_front xs ys order.1)

along_front : (tree : Tree) (xs ys : List Entry) → GoAlong tree (xs ++ ys) → GoAlong tree xs
along_front tree [] ys along = tt
along_front (Asks ask go) (x ∷ xs) ys along = (along.0, along.1, along.2, along_front (go x.reply) xs ys along.3)
along_front (Ends end) (x ∷ xs) ys along = absurd along

life_front : (app : App) (b : Birth) (xs ys : List Entry) → IsLife app b (xs ++ ys) → IsLife app b xs
life_front app b [] ys life = tt
life_front app b (birth ∷ later) ys life = (life.0, along_front (tree_of app birth) later ys life.1)

none_front : (xs ys : List Entry) → xs ++ ys ≡ [] → xs ≡ []
none_front [] ys none = refl
none_front (x ∷ xs) ys none = absurd (cc)

actor_front : (app : App) (a : Actor) (xs ys : List Entry) → IsOfActor app a (xs ++ ys) → IsOfActor app a xs
actor_front app (Carrier number) xs ys did = all_front IsCarried xs ys did
actor_front app (Process b) xs ys did = life_front app b xs ys did
actor_front app Newborn xs ys did = none_front xs ys did

pub legal_front : (app : App) (xs ys : List Entry) → IsLegalTrace app (xs ++ ys) → IsLegalTrace app xs
legal_front app xs ys legal = record {
  order = order_front xs ys legal.order;
  there = all_front (λ e. e.object < object_count app) xs ys legal.there;
  histories = λ o start at. history_front start (entries_on o xs) (entries_on o ys)
      (subst (IsLegal start) (filter-append (is_on o) xs ys) (legal.histories o start at));
  actors = λ a. actor_front app a (entries_by a xs) (entries_by a ys)
      (subst (IsOfActor app a) (filter-append (is_by a) xs ys) (legal.actors a));
  stamps = λ before e later is.
      legal.stamps before e (later ++ ys) (ap (λ (t : List Entry). t ++ ys) is ∙ append_assoc before (e ∷ later) ys);
}
