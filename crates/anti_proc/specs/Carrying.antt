-- What the calls of a process hand on, and in which region they are made.
use Rattle.std.specs.Prelude.{ℕ, ◌≡◌, List}
use Rattle.anti_ids.specs.Ids.{ids_of}
use Rattle.anti_ids.specs.List.{plain}
use Rattle.anti_ids.specs.declared.id.WriteId.{WriteId}
use Rattle.anti_kind.specs.declared.call.Call.{Call}
use Rattle.anti_kind.specs.declared.call.Call.TheVariants as calls
use Rattle.anti_kind.specs.declared.call.Reply.{Reply}
use Rattle.anti_baggage.specs.Texts.{lineage_text}
use Rattle.anti_app.specs.declared.app.App.{App}
use Rattle.anti_app.specs.Objects.{store_names}
use Rattle.anti_proc.specs.Trees.{Ask, Tree, Asks, Ends}

-- it is so of each call that the process makes, whatever it is answered
abbrev pub OfEachCall : (Ask → Type 0) → Tree → Type 0
OfEachCall Is (Asks ask go) = Is ask × ((reply : Reply) → OfEachCall Is (go reply))
OfEachCall Is (Ends end) = Unit {0}

-- What is in the hands of a call at an object, by what the process carries: a write stores just that, a look asks for just those of the
-- carried ids that are of the object, and a message has the text of what is carried. The other calls hand on nothing.
abbrev pub HandsOn : App → List WriteId → ℕ → Call → Type 0
HandsOn app carried o (calls.Write key value lineage) = lineage ≡ carried
HandsOn app carried o (calls.Look region ids dry) = ids ≡ ids_of o carried
HandsOn app carried o (calls.Post message) = message.baggage ≡ plain (lineage_text (store_names app) carried)
HandsOn app carried o _ = Unit {0}

abbrev pub HandsOnWhatIsCarried : App → Ask → Type 0
HandsOnWhatIsCarried app ask = HandsOn app ask.carried ask.object ask.call

-- A read, a scan, a poll or a look is made in this region. No other call of a process names one.
abbrev pub IsMadeIn : ℕ → Call → Type 0
IsMadeIn home (calls.Read region key) = region ≡ home
IsMadeIn home (calls.Scan region prefix) = region ≡ home
IsMadeIn home (calls.Poll region key) = region ≡ home
IsMadeIn home (calls.Look region ids dry) = region ≡ home
IsMadeIn home _ = Unit {0}

abbrev pub IsAtHome : ℕ → Ask → Type 0
IsAtHome home ask = IsMadeIn home ask.call
