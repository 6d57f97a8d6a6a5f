-- The passes of a client are those of the shared objects.
use Rattle.std.proofs.Common.{◌≡◌, ℕ, ◌<◌, List, [], ◌∷◌, length, map, get_or, refl, sym, ap, ◌∙◌, arith}
use Rattle.std.specs.Prelude.{Some, slice_get}
use Rattle.std.specs.List.{AllZip}
use Rattle.std.proofs.lemmas.List.{get_or-map, length-map}
use Rattle.std.proofs.lemmas.Option.{slice_get-get_or, slice_get_within}
use Rattle.anti_kind.specs.declared.actor.Actor.TheVariants.{Carrier}
use Rattle.anti_object.specs.declared.object.Object.{Object}
use Rattle.anti_shared.specs.Passes.{Identity, PassView, SharedView}
use Rattle.anti_shim.specs.declared.caller.Caller.{Caller}
use Rattle.anti_live.specs.Clients.{IsClient, id_of_pass, id_of_shared}
use Rattle.anti_live.specs.inner.Lives.{AreOf}

module _ (shareds : List (SharedView Object)) (passes : List (PassView Object)) (of : AreOf shareds passes) where
  pub same_long : length passes ≡ length shareds
  same_long = sym (length-map passes id_of_pass) ∙ ap length of ∙ length-map shareds id_of_shared

  -- the pass at a place is of the object there
  pub id_at : (o : ℕ) (shared : SharedView Object) (pass : PassView Object) → o < length shareds → shared ≡ get_or shareds o shared → pass ≡ get_or passes o pass
      → pass.id ≡ shared.id
  id_at o shared pass low there at =
      let long = same_long in
      ap id_of_pass at ∙ sym (get_or-map id_of_pass passes o pass shared.id (omega arith)) ∙ ap (λ (ids : List (Identity Object)). get_or ids o shared.id) of
      ∙ get_or-map id_of_shared shareds o shared shared.id low ∙ ap id_of_shared (sym there)

  -- others of the same objects are of them too
  pub of_others : (R : PassView Object → PassView Object → Type 0) → ((was now : PassView Object) → R was now → now.id ≡ was.id) → (others : List (PassView Object))
      → AllZip R passes others → AreOf shareds others
  of_others R kept others zipped = same passes others zipped ∙ of
    where
      same : (xs ys : List (PassView Object)) → AllZip R xs ys → map id_of_pass ys ≡ map id_of_pass xs
      same [] [] zipped = refl
      same [] (y ∷ ys) zipped = absurd zipped
      same (x ∷ xs) [] zipped = absurd zipped
      same (x ∷ xs) (y ∷ ys) zipped = λ i. kept x y zipped.0 i ∷ same xs ys zipped.1 i

-- ---- the first pass, which tells the actor of the client

module _ (shareds : List (SharedView Object)) (old new : List (PassView Object)) (old_of : AreOf shareds old) (new_of : AreOf shareds new) where
  -- where one stands in one of the lists there is one in the other
  pub stands_too : (o : ℕ) (now d : PassView Object) → slice_get new o ≡ Some now → slice_get old o ≡ Some (get_or old o d)
  stands_too o now d there =
      let low = slice_get_within new o now there in
      let long = same_long shareds old old_of in
      let long_new = same_long shareds new new_of in
      slice_get-get_or old o d (omega arith)

  -- the client stays who it is where the number of the first pass does
  pub client_stays : (was who : Caller) → who.actor ≡ was.actor → IsClient old was
      → ((one now : PassView Object) → slice_get old 0 ≡ Some one → slice_get new 0 ≡ Some now → now.number ≡ one.number) → IsClient new who
  client_stays was who same is kept now there =
      let one = get_or old 0 now in
      let at : slice_get old 0 ≡ Some one = stands_too 0 now now there in
      same ∙ is one at ∙ ap (λ (n : ℕ). Carrier n) (sym (kept one now at there))
