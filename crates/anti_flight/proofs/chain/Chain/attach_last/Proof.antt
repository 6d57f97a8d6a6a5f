-- `attach_last` cuts the last edge in two, at a node that lies apart from the others. Assumes `Logic`.
use mathlib.Core.Path.{◌≡◌, refl, sym, ap, subst, ◌∙◌}
use Prim.Native.Nat.{ℕ}
use mathlib.Core.List.{List, [], ◌∷◌, ◌++◌}
use seplogic.Ra.Ura.{Ura}
use mir.Syntax.{Fn, named}
use mir.MapTy.{inst_fn}
use mir.Val.{Val, vptr}
use base.Logic.{SProp, ent, sep}
use base.Fml.{Lft, GName, Share, ftrue, flft, fobs, fbor}
use prog.Model.{Model}
use prog.Wp.{Env, Calls, Loops, WpFn, Tables}
use types.Logic.{Logic}
use contract.Monad.{fact}
use contract.Running.{tables, tables_of}
use sound.WpLaws.{WpFn-mono}
use types.Kit.{Item, ⋆, ‵, ◌⊛◌, at_ret, ◌$◌, ◌∵◌, !, qed, by, move, keep, use1, use2, split, join, rewrite, fsplit, fsplit3, fjoin, fjoin3, feq_i, feq_l, suffices, frame, done}
use types.Part.{whole, sub, agg}
use types.Run.{look, store, init, stop, hop, fld, load, of_opd, and_then, no_more, assigns, assigns_last, first, blocks, exec, returns, enter}
use types.ByLocal.{alloc_all, pass_all, free_all, look_at, get, get_in, through, sets, is, env}
use types.SemTy.{Body as Borrowed}
use denote.Exit.{yes, no}
use denote.RattleType.{owns}
use denote.Memory.{mem}
use denote.RawPtr.{Ptr, block_ptr, ptr_val, in_a_block}
use denote.Ref.{MutBor, MutRef}
use denote.Builtin.{RefMutOf}
use denote.Signature.{plain}
use denote.Steps.{nothing, opens, closes}
use denote.Triple.Carry.{spared}
use denote.Triple.Clauses.{Clauses, Ended, closing}
use denote.Triple.Entry.{on_entry}
use denote.Triple.Spec.{Meets, triple_of}
use denote.Triple.Table.{entered, run_framed}
use denote.Triple.Walked.{needs, Stays, stay_dropped, stay_ref, walk_of, ends_at, Goes-dropped, Goes-ref, walk_Meets}
use Rattle.std.proofs.alloc.Calls.{Goes-blank}
use Rattle.std.proofs.VecSteps.Shapes.{after}
use Rattle.std.proofs.RcSteps.{word, word-Good}
use Rattle.anti_flight.specs.inner.Linked.{linked, places, ring}
use Rattle.anti_flight.specs.inner.Ownership.{link_room, edge, path, detached_owns, items_own}
use Rattle.anti_flight.proofs.Splits.{last_from}
use Rattle.anti_flight.proofs.Apart.{IsFresh, places_cut, apart_attached_last}
use Rattle.anti_flight.proofs.Memory.{One, args, RT, Node, Ch, Pl, Dt, word_had, word_made, knows, edge_out, edge_in, says_both, no_source, no_target, no_room, path_cut, path_glue, items_glue, fresh}
use mathlib.Core.List.{append-nil}
use Rattle.anti_flight.specs.contracts.chain.Chain.attach_last.Key.{name as #self}
use Rattle.anti_flight.proofs.chain.Chain.attach_last.Statement as stated
use Rattle.anti_flight.proofs.chain.Chain.attach_last.Code as code

module _ (E : One) where
  abbrev function : Fn
  function = inst_fn (args E) code.function

  abbrev ended : Ended
  ended = record { signature = record { lifetimes = 1; outlives = []; params = RefMutOf (0 ∷ []) tt (plain (λ _. Ch E)) (λ _. tt) ∷ plain (λ _. Pl) ∷ plain (λ _. Dt E) ∷ []; result = plain (λ _. Pl) }; kept = (yes, (no, (no, tt))) }

  abbrev stayed : Stays ended.signature.params ended.kept
  stayed = (stay_ref (0 ∷ []) tt (plain (λ _. Ch E)), (stay_dropped (plain (λ _. Pl)) no, (stay_dropped (plain (λ _. Dt E)) no, tt)))

  abbrev Asks : (Ch E).Denot → Pl.Denot → (Dt E).Denot → Type 0
  Asks d tail node = tail.ptr ≡ d.tail

  abbrev Gives0 : (Ch E).Denot → Pl.Denot → (Dt E).Denot → Pl.Denot → (Ch E).Denot → Type 0
  Gives0 d tail node r new = (new.head ≡ d.head) × (new.tail ≡ d.tail)

  abbrev Gives1 : (Ch E).Denot → Pl.Denot → (Dt E).Denot → Pl.Denot → (Ch E).Denot → Type 0
  Gives1 d tail node r new = new.nodes ≡ d.nodes ++ linked r.ptr node.value ∷ []

  abbrev spec : {M : Type 1} {𝓤 : Ura M} (𝓛 : Logic 𝓤) → Clauses 𝓤 ended
  spec {𝓤 = 𝓤} 𝓛 κs a = record { ghost = Unit {0}; requires = λ _. fact 𝓤 (Asks a.0.now a.1.0 a.1.1.0); ensures = λ _ r w. sep 𝓤 (fact 𝓤 (Gives0 a.0.now a.1.0 a.1.1.0 r w.0.now)) (fact 𝓤 (Gives1 a.0.now a.1.0 a.1.1.0 r w.0.now)) }

module _ (E : One) {M : Type 1} {𝓤 : Ura M} (𝓛 : Logic 𝓤) (𝓜 : Model 𝓤 𝓛.H) (C : Calls 𝓤 𝓛.H) (Λ : Loops 𝓤 𝓛.H) (κ : Lft) (q : Share) (rb ro : ℕ) (γ : GName) (d : (Ch E).Denot) (tail : Pl.Denot) (node : (Dt E).Denot) (us0 us1 us2 : List Val) where
  open 𝓛 use {H, A}

  abbrev self : MutBor (Ch E).Denot
  self = record { ref_ptr = (rb, ro); ghost_name = γ; now = d }

  abbrev bound : (walk_of 𝓛 (ended E) (stayed E) (spec E 𝓛)).Ghost
  bound = (((κ, tt), (q, tt), tt, (self, (tail, (node, tt))), (us0, (us1, (us2, tt)))), tt)

  abbrev Post : Val → SProp 𝓤
  Post = (walk_of 𝓛 (ended E) (stayed E) (spec E 𝓛)).post bound

  exits : us0 ≡ vptr rb ro ∷ [] → (r : Pl.Denot) (v : Val) (new : (Ch E).Denot) → Gives0 E d tail node r new → Gives1 E d tail node r new → ent 𝓤 (⋆ 𝓛 (‵ (fobs γ ((Ch E).coded.code new)) ∷ ‵ (fbor κ (Borrowed (mem (Ch E)) rb ro γ)) ∷ ‵ (flft κ q) ∷ ‵ (Pl.own_val r (v ∷ [])) ∷ [])) (Post v)
  exits passed r v new g0 g1 =
      qed 𝓛 (‵ (fobs γ ((Ch E).coded.code new)) ∷ ‵ (fbor κ (Borrowed (mem (Ch E)) rb ro γ)) ∷ ‵ (flft κ q) ∷ ‵ (Pl.own_val r (v ∷ [])) ∷ []) ∵
      suffices ! _ (ends_at 𝓛 (ended E) (stayed E) (spec E 𝓛) bound v r (new, (tt, (tt, tt))) (tt, (tt, (tt, tt)))) $ says_both ! g0 g1 $
      nothing ! $ move ! (3 ∷ 0 ∷ []) $ join ! $ frame ! $ feq_i ! (List Val) us0 (vptr rb ro ∷ []) passed $ fjoin3 ! $ nothing ! $ nothing ! $ fjoin ! $ nothing ! $ fjoin ! $ move ! (1 ∷ 0 ∷ []) $ fjoin ! $ done !

  abbrev Had : List (Item 𝓤)
  Had = ‵ (fobs γ ((Ch E).coded.code d)) ∷ ‵ (fbor κ (Borrowed (mem (Ch E)) rb ro γ)) ∷ ‵ (flft κ q) ∷ ‵ (detached_owns (RT E) node.ptr node.value) ∷ []

  walk : us0 ≡ vptr rb ro ∷ [] → Asks E d tail node → ent 𝓤 (⋆ 𝓛 Had) (WpFn 𝓤 H C Λ (function E) (vptr rb ro ∷ word tail.ptr ∷ word node.ptr ∷ []) Post)
  walk passed asked =
      let n : Node E = linked node.ptr node.value in
      let out : Pl.Denot = record { ptr = node.ptr } in
      let before : Ptr = last_from d.head (places d.nodes) in
      qed 𝓛 Had ∵ enter ! C Λ (function E) (vptr rb ro ∷ word tail.ptr ∷ word node.ptr ∷ []) _ $ alloc_all ! (λ l. pass_all ! refl ((tt, tt), (word-Good [] tail.ptr, (word-Good [] node.ptr, tt))) $
      let En : Env 𝓤 H = env (function E).locals l in
      opens ! tt (Ch E) {h = d} rb ro (λ vs. move ! (1 ∷ []) $ fsplit ! $ move ! (1 ∷ []) $ fsplit3 ! $ move ! (8 ∷ []) $ fsplit ! $ move ! (0 ∷ 2 ∷ []) $
      knows ! (IsFresh node.ptr (ring d.head d.nodes d.tail)) (fresh 𝓛 𝓜 node.ptr d.head (places d.nodes) d.tail) (λ free.
      let new : (Ch E).Denot = record { mark = d.mark; head = d.head; tail = d.tail; nodes = d.nodes ++ n ∷ []; apart = apart_attached_last d.head n d.nodes d.tail free d.apart } in
      in_a_block ! node.ptr link_room (no_room 𝓛) (λ pb po ep. fsplit ! $ move ! (2 ∷ []) $
      use1 𝓛 (‵ (path d.head (places d.nodes)) ⊛ ‵ (path before (d.tail ∷ []))) (path_cut 𝓛 d.head (places d.nodes) (d.tail ∷ [])) $ split ! $ move ! (1 ∷ []) $ fsplit ! $
      in_a_block ! before (λ p. edge p d.tail) (no_source 𝓛 d.tail) (λ lb lo el. in_a_block ! d.tail (edge (block_ptr lb lo)) (no_target 𝓛 (block_ptr lb lo)) (λ tb to et. edge_out ! lb lo tb to $
      -- [before.next; tail.prev; nothing; the path before; room for node.prev, and for node.next; the value; the values; the ends; the mark; its cell; ..]
      sets ! (is ! (of_opd ! (get_in ! (fld ! refl (stop !)) (sub ! 0 refl (whole !)))) (ap ptr_val (asked ∙ et))) refl (tt, tt) $ sets ! (is ! (of_opd ! (get_in ! (fld ! refl (stop !)) (sub ! 0 refl (whole !)))) (ap ptr_val ep)) refl (tt, tt) $ first ! $ blocks ! $
      assigns ! (of_opd ! (get ! refl)) (through ! refl (fld ! refl (stop !))) (init ! 5 refl (tt, tt)) $
      sets ! (of_opd ! (load ! (through ! refl (fld ! refl (stop !))) (look ! 1 refl))) refl (tt, tt) $
      assigns ! (of_opd ! (get ! refl)) (through ! refl (fld ! refl (stop !))) (init ! 4 refl (tt, tt)) $
      assigns ! (of_opd ! (get ! refl)) (through ! refl (fld ! refl (stop !))) (store ! 1 refl (tt, tt)) $
      assigns_last ! (of_opd ! (get ! refl)) (through ! refl (fld ! refl (hop ! (look ! 4 refl) (fld ! refl (stop !))))) (store ! 0 refl (tt, tt)) $
      exec ! C Λ En (after 3 (function E).body) (at_ret En Post) $ sets ! (of_opd ! (get ! refl)) refl (tt, tt) $ sets ! (agg ! (and_then ! (get ! refl) (no_more !))) refl (word-Good [] (block_ptr pb po)) $
      move ! (0 ∷ 4 ∷ []) $ edge_in ! lb lo pb po $ move ! (4 ∷ 1 ∷ []) $ edge_in ! pb po tb to $
      rewrite ! 0 (λ (p : Ptr × Ptr). ‵ (edge p.0 p.1)) (λ i. (sym ep i, sym et i)) refl $ rewrite ! 1 (λ (p : Ptr × Ptr). ‵ (edge p.0 p.1)) (λ i. (sym el i, sym ep i)) refl $
      move ! (0 ∷ 2 ∷ []) $ fjoin ! $ move ! (1 ∷ 0 ∷ []) $ fjoin ! $ move ! (1 ∷ 0 ∷ []) $
      use2 𝓛 (‵ (path d.head (places d.nodes ++ node.ptr ∷ d.tail ∷ []))) (path_glue 𝓛 d.head (places d.nodes) (node.ptr ∷ d.tail ∷ [])) $
      rewrite ! 0 (λ (ps : List Ptr). ‵ (path d.head ps)) (sym (places_cut d.nodes n [] d.tail)) refl $
      rewrite ! 2 (λ (ns : List (Node E)). ‵ (items_own (RT E) ns)) (sym (append-nil d.nodes)) refl $ move ! (1 ∷ 2 ∷ []) $
      use2 𝓛 (‵ (items_own (RT E) (d.nodes ++ n ∷ []))) (items_glue 𝓛 E d.nodes n []) $
      move ! (1 ∷ 0 ∷ 2 ∷ []) $ fjoin3 ! $ move ! (1 ∷ 0 ∷ []) $ fjoin ! $ move ! (1 ∷ 0 ∷ []) $ closes ! tt (Ch E) new vs rb ro $
      returns ! (look_at ! 0 refl) $ free_all ! refl $ keep ! (0 ∷ 1 ∷ 2 ∷ []) $ word_made ! node.ptr $ rewrite ! 0 (λ (p : Ptr). ‵ (Pl.own_val out (word p ∷ []))) ep refl $ move ! (1 ∷ 2 ∷ 3 ∷ 0 ∷ []) $
      by ! (exits passed out (word (block_ptr pb po)) new (refl, refl) refl)))))))

  entry : Asks E d tail node → ent 𝓤 (on_entry 𝓛 (ended E).signature (κ, tt) (q, tt) (self, (tail, (node, tt))) (us0, (us1, (us2, tt)))) (WpFn 𝓤 H C Λ (function E) (us0 ++ (us1 ++ (us2 ++ []))) Post)
  entry asked =
      qed 𝓛 ((‵ (flft κ q) ⊛ ‵ ftrue) ∷ ‵ (owns (MutRef (named 0) κ (Ch E) ∷ Pl ∷ Dt E ∷ []) (self, (tail, (node, tt))) (us0, (us1, (us2, tt)))) ∷ []) ∵
      split ! $ move ! (2 ∷ []) $
      fsplit ! $
      fsplit3 ! $ feq_l ! (λ e0.
      move ! (2 ∷ []) $
      fsplit ! $
      word_had ! tail.ptr us1 (λ e1.
      fsplit ! $
      fsplit ! $ word_had ! node.ptr us2 (λ e2.
      keep ! (2 ∷ 3 ∷ 4 ∷ 0 ∷ []) $
      by ! (subst (λ (ws : List Val × List Val × List Val). ent 𝓤 (⋆ 𝓛 Had) (WpFn 𝓤 H C Λ (function E) (ws.0 ++ (ws.1 ++ (ws.2 ++ []))) Post)) (λ j. (sym e0 j, sym e1 j, sym e2 j)) (walk e0 asked)))))

meets : (E : One) {M : Type 1} {𝓤 : Ura M} (𝓛 : Logic 𝓤) (𝓜 : Model 𝓤 𝓛.H) (𝓣 : Tables 𝓤 𝓛.H)
    → Meets 𝓛 (ended E).signature (WpFn 𝓤 𝓛.H 𝓣.C 𝓣.Λ (function E)) (closing 𝓛 (ended E) (spec E 𝓛))
meets E {𝓤 = 𝓤} 𝓛 𝓜 𝓣 =
    walk_Meets 𝓛 (ended E) (stayed E) (Goes-ref 𝓛 1 0 tt (plain (λ _. Ch E)), (Goes-dropped 𝓛 1 (plain (λ _. Pl)) no (λ κs x f. refl), (Goes-blank 𝓛 1 (plain (λ _. Dt E)) no (λ κs x f. tt), tt))) (spec E 𝓛) (WpFn 𝓤 𝓛.H 𝓣.C 𝓣.Λ (function E)) (WpFn-mono 𝓤 𝓛.H 𝓛.laws 𝓣 (function E))
    (λ z. needs 𝓤 (Asks E z.0.3.0.now z.0.3.1.0 z.0.3.1.1.0) _ (entry E 𝓛 𝓜 𝓣.C 𝓣.Λ z.0.0.0 z.0.1.0 z.0.3.0.ref_ptr.0 z.0.3.0.ref_ptr.1 z.0.3.0.ghost_name z.0.3.0.now z.0.3.1.0 z.0.3.1.1.0 z.0.4.0 z.0.4.1.0 z.0.4.1.1.0))

pub attach_last_spec : {M : Type 1} → stated.statement M
unfolding tables_of
attach_last_spec 𝓤 𝓛 𝓜 𝓡 wired X L y =
    let E : One = record { row = X; laws = L } in
    let 𝓣 : Tables 𝓤 𝓛.H = tables_of 𝓤 𝓛.H 𝓜 (tables 𝓤 𝓛.H 𝓜 𝓡 𝓡.env) in
    let k = #self (args E) in
    spared 𝓛 (ended E).signature (𝓡.run (𝓡.env k)) (run_framed 𝓤 𝓛.H 𝓜 𝓡 (𝓡.env k)) 1 (X.lives, tt) (closing 𝓛 (ended E) (spec E 𝓛))
    (entered 𝓤 𝓛.H (triple_of 𝓛 (ended E).signature (closing 𝓛 (ended E) (spec E 𝓛))) 𝓣.C 𝓣.Λ k (function E) (code.unfolded 𝓤 𝓛.H 𝓜 𝓡 wired (X, tt)) (meets E 𝓛 𝓜 𝓣))
    ((y.0.0, y.0.1, tt, y.0.3, y.0.4), y.1)
