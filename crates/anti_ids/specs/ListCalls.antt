-- What calls make of a list, and the code of one.
use Rattle.std.specs.Prelude.{ℕ, List, refl, ◌-◌, [], ◌∷◌, ◌++◌, max}
use Rattle.std.specs.Coded.{Coded, code_by, coded×, coded_ℕ, coded_list}
use Rattle.anti_ids.specs.List.{Listed}

abbrev pub list_code : {T : Type 0} → Coded T → Coded (Listed T)
list_code {T} code =
    code_by (List T × ℕ) (coded× (coded_list code) coded_ℕ) (λ l. (l.items, l.spare)) (λ p. record { items = p.0; spare = p.1 }) (λ _. refl)

module _ {T : Type 0} where
  -- the list with one more item, which takes of the room
  abbrev pub pushed : Listed T → T → Listed T
  pushed l item = record { items = l.items ++ item ∷ []; spare = l.spare - 1 }

  -- the list with room for at least so many more items
  abbrev pub reserved : Listed T → ℕ → Listed T
  reserved l more = record { items = l.items; spare = max l.spare more }

  -- the list with these items at its end, which take of the room
  abbrev pub extended : Listed T → List T → ℕ → Listed T
  extended l more count = record { items = l.items ++ more; spare = l.spare - count }
