-- What a TOML document says of a house, or that it says none. Assumes nothing.
use Rattle.std.specs.Prelude.{ℕ, ◌^◌, Bool, true, cond, ◌&&◌, List, [], ◌∷◌, ◌++◌, length, ℤ, pos, negsuc, Some, None, Option, codes, option_and_then, option_map, bytes_eq, nat_lt}
use Rattle.std.specs.List.{list_any}
use Rattle.std.specs.Char.{digit_value}
use Rattle.std.specs.Str.Parse.{signed_digits_value, without_leading_sign}
use Rattle.toml.specs.Data.{Data, Items, Members, no_items, item, no_members, member, as_array, as_integer, as_str, as_table, get_member}
use Rattle.house.specs.Settings.{CapText, Written, cap_text, written}
use Rattle.house.specs.declared.rule.HouseRule.{HouseRule}
use Rattle.house.specs.declared.rule.HouseRule.TheVariants as chosen
use Rattle.house.specs.declared.settings.Entry.{Entry}
use Rattle.house.specs.declared.settings.Kind.{Kind}
use Rattle.house.specs.declared.settings.Kind.TheVariants.{Position, Prepaid}

-- each key of the members passes the test
abbrev pub only : (List ℕ → Bool) → Members → Bool
only test no_members = true
only test (member k d ms) = test k && only test ms

-- the key is one of these
abbrev pub is_among : List (List ℕ) → List ℕ → Bool
is_among ks k = list_any (bytes_eq k) ks

-- something, where a test holds
abbrev pub when : Bool → Option (Unit {0})
when b = cond b (Some tt) None

-- the table at a key
abbrev pub table_in : List ℕ → Members → Option Members
table_in k ms = option_and_then as_table (get_member k ms)

abbrev pub all_digits : List ℕ → Bool
all_digits [] = true
all_digits (b ∷ bs) = nat_lt (digit_value b) 10 && all_digits bs

-- a number of 64 bits
abbrev pub is_wide : ℤ → Bool
is_wide (pos n) = nat_lt n (2 ^ 63)
is_wide (negsuc n) = nat_lt n (2 ^ 63)

-- decimal digits, behind a sign or none, that write a number of 64 bits
abbrev pub is_number : List ℕ → Bool
is_number bs = (nat_lt 0 (length (without_leading_sign bs)) && all_digits (without_leading_sign bs)) && is_wide (signed_digits_value 10 bs)

-- the number of an account or of a firm, as a key writes it
abbrev pub number_of : List ℕ → Option ℤ
number_of bs = cond (is_number bs) (Some (signed_digits_value 10 bs)) None

abbrev pub entry_of : ℤ → ℤ → Entry
entry_of n v = record { number = n; value = v }

-- a number under a key that is a number
abbrev pub numbered : List ℕ → Data → Option Entry
numbered k d = option_and_then (λ n. option_map (entry_of n) (as_integer d)) (number_of k)

-- x before the rest, where there is a rest
abbrev pub before : {A : Type 0} → A → Option (List A) → Option (List A)
before x o = option_map (λ xs. x ∷ xs) o

-- a table of numbers under numbers
abbrev pub entries_of : Members → Option (List Entry)
entries_of no_members = Some []
entries_of (member k d ms) = option_and_then (λ e. before e (entries_of ms)) (numbered k d)

-- the two queue rules by name
abbrev pub rule_named : List ℕ → Option HouseRule
rule_named s = cond (bytes_eq s (codes "rate")) (Some chosen.Rate) (cond (bytes_eq s (codes "yield")) (Some chosen.Yield) None)

-- instrument.1.rule, where nothing else stands beside it
abbrev pub rule_at : Members → Option HouseRule
rule_at i = option_and_then (λ _. option_and_then rule_named (option_and_then as_str (get_member (codes "rule") i))) (when (only (is_among (codes "rule" ∷ [])) i))

abbrev pub first_rule : Members → Option HouseRule
first_rule is = option_and_then (λ _. option_and_then rule_at (table_in (codes "1") is)) (when (only (is_among (codes "1" ∷ [])) is))

abbrev pub rule_of : Members → Option HouseRule
rule_of doc = option_and_then first_rule (table_in (codes "instrument") doc)

abbrev pub margin_in : Members → Option ℤ
margin_in c = option_and_then as_integer (get_member (codes "margin") c)

-- the two kinds of a centre by name, with the other keys of its table c
abbrev pub kind_named : Members → List ℕ → Option Kind
kind_named c s =
    cond (bytes_eq s (codes "position")) (option_map (λ _. Position) (when (only (is_among (codes "kind" ∷ codes "accounts" ∷ [])) c)))
    (cond (bytes_eq s (codes "prepaid")) (option_and_then (λ _. option_map (λ n. Prepaid n) (margin_in c)) (when (only (is_among (codes "kind" ∷ codes "margin" ∷ codes "accounts" ∷ [])) c))) None)

abbrev pub kind_of : Members → Option Kind
kind_of c = option_and_then (kind_named c) (option_and_then as_str (get_member (codes "kind") c))

-- the table of entries at a key
abbrev pub entries_in : List ℕ → Members → Option (List Entry)
entries_in k ms = option_and_then entries_of (table_in k ms)

-- a firm cap: its members and its caps, and nothing else
abbrev pub layer_in : Members → Option CapText
layer_in l =
    option_and_then (λ _. option_and_then (λ ms. option_map (cap_text ms) (entries_in (codes "caps") l)) (entries_in (codes "members") l))
    (when (only (is_among (codes "members" ∷ codes "caps" ∷ [])) l))

abbrev pub layer_of : Data → Option CapText
layer_of d = option_and_then layer_in (as_table d)

-- the firm caps, one after another
abbrev pub layers_from : Items → Option (List CapText)
layers_from no_items = Some []
layers_from (item d ds) = option_and_then (λ l. before l (layers_from ds)) (layer_of d)

-- none, or a list of them
abbrev pub layers_of : Option Data → Option (List CapText)
layers_of None = Some []
layers_of (Some d) = option_and_then layers_from (as_array d)

-- the centre c and the firm caps over it, with the rule
abbrev pub house_with : Members → HouseRule → Members → Option Written
house_with doc r c =
    option_and_then (λ k. option_and_then (λ es. option_map (written r k es) (layers_of (get_member (codes "cap") doc))) (entries_in (codes "accounts") c))
    (kind_of c)

-- the whole document
abbrev pub settings_of : Members → Option Written
settings_of doc =
    option_and_then (λ _. option_and_then (λ r. option_and_then (house_with doc r) (table_in (codes "centre") doc)) (rule_of doc))
    (when (only (is_among (codes "instrument" ∷ codes "centre" ∷ codes "cap" ∷ [])) doc))

-- what was read so far, before the rest, where there is a rest
abbrev pub after : {A : Type 0} → List A → Option (List A) → Option (List A)
after xs o = option_map (λ ys. xs ++ ys) o
