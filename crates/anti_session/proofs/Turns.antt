-- What a process did in a legal trace, by places. Behind the post of a call it took the reply next, and nothing behind the post of a reply;
-- and what bears it stands before all else that it did.
use Rattle.std.proofs.Common.{◌≡◌, ℕ, suc, ◌<◌, ◌≤◌, ◌++◌, true, false, List, [], ◌∷◌, refl, sym, ap, ◌∙◌, subst, append_assoc, arith}
use Rattle.std.specs.Prelude.{Some, slice_get, take, drop}
use Rattle.anti_kind.specs.declared.actor.Actor.{Actor}
use Rattle.anti_kind.specs.declared.actor.Actor.TheVariants.{Process}
use Rattle.anti_kind.specs.declared.actor.Birth.{Birth}
use Rattle.anti_kind.specs.declared.call.Call.TheVariants as calls
use Rattle.anti_kind.specs.declared.call.Reply.TheVariants as replies
use Rattle.anti_kind.specs.declared.entry.Entry.{Entry}
use Rattle.anti_kind.specs.declared.message.Message.{Message}
use Rattle.anti_kind.specs.declared.message.MessageKind.TheVariants as kinds
use Rattle.anti_app.specs.declared.app.App.{App}
use Rattle.anti_trace.specs.Legal.{IsLegalTrace, IsLife, IsOfActor, bears}
use Rattle.anti_trace.specs.Traces.{entries_by, is_by, same_actor}
use Rattle.anti_trace.proofs.OfLegal.{none_cut}
use Rattle.anti_trace.proofs.Puts.{same_actor_itself}
use Rattle.law_causal.proofs.Lists.{kept_between}
use Rattle.law_causal.proofs.Places.{did, made_at}
use Rattle.anti_session.proofs.Heard.{Hears, later_acts, post_hears, reply_ends}

-- ---- what a process did

posts_bear_none : (e : Entry) (m : Message) → e.call ≡ calls.Post m → bears e.call ≡ true → ⊥
posts_bear_none e m post is = let off : bears e.call ≡ false = ap bears post in cc

module _ (app : App) (b : Birth) where
  life_hears : (es : List Entry) (e f : Entry) (rest : List Entry) (m : Message) (number : ℕ) → IsLife app b (es ++ e ∷ f ∷ rest)
      → e.call ≡ calls.Post m → m.kind ≡ kinds.Call → e.reply ≡ replies.Posted number → Hears e number f
  life_hears [] e f rest m number life post kind reply = absurd (posts_bear_none e m post life.0.call)
  life_hears (birth ∷ later) e f rest m number life post kind reply = post_hears app birth later e f rest m number life.1 post kind reply

  life_ends : (es : List Entry) (e f : Entry) (rest : List Entry) (m : Message) → IsLife app b (es ++ e ∷ f ∷ rest) → e.call ≡ calls.Post m
      → m.kind ≡ kinds.Reply → ⊥
  life_ends [] e f rest m life post kind = posts_bear_none e m post life.0.call
  life_ends (birth ∷ later) e f rest m life post kind = reply_ends app birth later e f rest m life.1 post kind

  life_born : (es : List Entry) (e : Entry) (rest : List Entry) → IsLife app b (es ++ e ∷ rest) → bears e.call ≡ true
      → (es ≡ []) × (e.span ≡ 1)
  life_born [] e rest life is = (refl, life.0.span)
  life_born (birth ∷ later) e rest life is = absurd (let off : bears e.call ≡ false = later_acts app birth later e rest life.1 in cc)

-- ---- by places

-- the entry at place k, which is y or before it, takes the reply to the call of this number that the entry e posted
pub record IsHeard (trace : List Entry) (b : Birth) (e : Entry) (number y : ℕ) : Type 0 where
  pub place : ℕ
  pub early : place ≤ y
  pub entry : Entry
  pub there : slice_get trace place ≡ Some entry
  pub by : entry.actor ≡ Process b
  pub hears : Hears e number entry

module _ (app : App) (trace : List Entry) (legal : IsLegalTrace app trace) (b : Birth) where
  abbrev before : ℕ → List Entry
  before x = entries_by (Process b) (take x trace)

  abbrev behind : ℕ → List Entry
  behind x = entries_by (Process b) (drop (suc x) trace)

  lived : (y : ℕ) (e : Entry) → slice_get trace y ≡ Some e → e.actor ≡ Process b → IsLife app b (before y ++ e ∷ behind y)
  lived y e at by =
      subst (λ (a : Actor). IsOfActor app a (entries_by a (take y trace) ++ e ∷ entries_by a (drop (suc y) trace))) by
      (did app trace legal y e at)

  -- what bears a process is in its first span
  pub born_first : (y : ℕ) (e : Entry) → slice_get trace y ≡ Some e → e.actor ≡ Process b → bears e.call ≡ true → e.span ≡ 1
  born_first y e at by is = (life_born app b (before y) e (behind y) (lived y e at by) is).1

  module _ (x y : ℕ) (d e : Entry) (at_x : slice_get trace x ≡ Some d) (at_y : slice_get trace y ≡ Some e) (by_x : d.actor ≡ Process b)
      (by_y : e.actor ≡ Process b) (low : x < y) where
    between : (more : List Entry) × (before y ≡ before x ++ d ∷ more)
    between =
        kept_between (is_by (Process b)) trace x y d at_x (ap (same_actor (Process b)) by_x ∙ same_actor_itself (Process b)) low

    cut : (more : List Entry) → before y ≡ before x ++ d ∷ more → IsLife app b (before x ++ d ∷ (more ++ e ∷ behind y))
    cut more is =
        subst (IsLife app b) (append_assoc (before x) (d ∷ more) (e ∷ behind y))
        (subst (λ (es : List Entry). IsLife app b (es ++ e ∷ behind y)) is (lived y e at_y by_y))

    -- nothing stands before what bears it
    pub never_born : bears e.call ≡ true → ⊥
    never_born is =
        none_cut (before x) d between.0 (sym (life_born app b (before y) e (behind y) (lived y e at_y by_y) is).0 ∙ between.1)

    -- behind the post of a call it took the reply, and did nothing else before
    pub hears_by : (m : Message) (number : ℕ) → d.call ≡ calls.Post m → m.kind ≡ kinds.Call → d.reply ≡ replies.Posted number
        → IsHeard trace b d number y
    hears_by m number post kind reply = by_more between.0 between.1
      where
        by_more : (more : List Entry) → before y ≡ before x ++ d ∷ more → IsHeard trace b d number y
        by_more [] is = record {
          place = y;
          early = omega arith;
          entry = e;
          there = at_y;
          by = by_y;
          hears = life_hears app b (before x) d e (behind y) m number (cut [] is) post kind reply;
        }
        by_more (f ∷ more) is =
            let at = made_at trace (Process b) y (before x ++ d ∷ []) f more (is ∙ sym (append_assoc (before x) (d ∷ []) (f ∷ more))) in
            record {
              place = at.0;
              early = omega (arith, at.1);
              entry = f;
              there = at.2;
              by = at.3;
              hears = life_hears app b (before x) d f (more ++ e ∷ behind y) m number (cut (f ∷ more) is) post kind reply;
            }

    -- behind the post of a reply it did nothing
    pub never_later : (m : Message) → d.call ≡ calls.Post m → m.kind ≡ kinds.Reply → ⊥
    never_later m post kind = by_more between.0 between.1
      where
        by_more : (more : List Entry) → before y ≡ before x ++ d ∷ more → ⊥
        by_more [] is = life_ends app b (before x) d e (behind y) m (cut [] is) post kind
        by_more (f ∷ more) is = life_ends app b (before x) d f (more ++ e ∷ behind y) m (cut (f ∷ more) is) post kind
