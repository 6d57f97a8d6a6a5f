-- What a look found stays visible, and from then on its key shows that version or a later one.
use Rattle.std.proofs.Common.{◌≡◌, ℕ, true, List, [], ◌∷◌, ◌++◌, get_or, sym, ap, subst, ◌∙◌, arith}
use Rattle.std.specs.Prelude.{Contains}
use Rattle.std.proofs.lemmas.Bool.{leb-true}
use Rattle.std.proofs.lemmas.List.Elements.{Contains-get_or}
use Rattle.anti_ids.specs.declared.id.WriteId.{WriteId}
use Rattle.anti_kind.specs.declared.call.Call.TheVariants.{Look}
use Rattle.anti_kind.specs.declared.call.Reply.{Reply}
use Rattle.anti_kind.specs.declared.call.Reply.TheVariants.{Missing}
use Rattle.anti_kind.specs.declared.entry.Entry.{Entry}
use Rattle.anti_kind.specs.Store.{Store, is_visible}
use Rattle.anti_kind.specs.Objects.{store, due, IsLegal}
use Rattle.anti_kind.specs.Replies.{named_missing}
use Rattle.anti_kind.specs.Laws.{FindsAll, FoundStays, KeepsLaws}
use Rattle.anti_kind.proofs.Fullness.{visible_stays}
use Rattle.anti_kind.proofs.Histories.{follows_in, legal_front}
use Rattle.anti_kind.proofs.Keeping.{outside_missing}
use Rattle.anti_kind.proofs.Showing.{IsShown, is_shown}

outside : (id : WriteId) → Contains [] id → ⊥
outside id among = let low = among.1 in absurd (omega arith)

-- each id is visible where the look was made
found : (s : Store) → KeepsLaws s → (h rest : List Entry) (look : Entry) (g : ℕ) (ids : List WriteId) → IsLegal (store s) (h ++ look ∷ rest) → FindsAll g ids look
    → (id : WriteId) → Contains ids id → is_visible s h g id ≡ true
found s laws h rest look g ids legal finds id among =
    let due_is : Missing [] [] ≡ due (store s) h (Look g ids finds.dry) =
    sym finds.reply ∙ (follows_in (store s) h look rest legal).reply ∙ ap (due (store s) h) finds.call in
    (outside_missing s laws.looks_right h (legal_front (store s) h (look ∷ rest) legal) g ids finds.dry id among).0
    (subst (λ (reply : Reply). Contains (named_missing reply) id → ⊥) due_is (outside id))

pub found_stays : (s : Store) → KeepsLaws s → FoundStays s
found_stays s laws h rest look g ids legal finds i d short =
    let id : WriteId = get_or ids i d in
    let here : is_visible s h g id ≡ true = found s laws h rest look g ids legal finds id (Contains-get_or ids i d short) in
    let still : is_visible s (h ++ look ∷ rest) g id ≡ true = visible_stays s laws.never_falls h (look ∷ rest) legal g id here in
    let row : IsShown s (h ++ look ∷ rest) g id.key = is_shown s (h ++ look ∷ rest) g id.key laws.shows_written legal in
    (still, omega (arith, row.version, leb-true id.version (s.shows (h ++ look ∷ rest) g id.key) still))
