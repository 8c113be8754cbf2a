-- One of two centres. Assumes nothing.
use Rattle.centres.specs.declared.either.Either.{Either}
use Rattle.centres.specs.declared.either.Either.TheVariants.{First, Second}

-- what f says of the first, or g of the second
abbrev pub either_of : {A B X : Type 0} → (A → X) → (B → X) → Either A B → X
either_of f g (First a) = f a
either_of f g (Second b) = g b

-- both are the first and same by p, or both the second and same by q
abbrev pub SameKind : {A B : Type 0} → (A → A → Type 0) → (B → B → Type 0) → Either A B → Either A B → Type 0
SameKind p q (First a) (First c) = p a c
SameKind p q (First a) (Second d) = ⊥
SameKind p q (Second b) (First c) = ⊥
SameKind p q (Second b) (Second d) = q b d

-- what holds of the first and of the second holds of either
pub for_either : {A B : Type 0} (P : Either A B → Type 0) → ((a : A) → P (First a)) → ((b : B) → P (Second b)) → (e : Either A B) → P e
for_either P f g (First a) = f a
for_either P f g (Second b) = g b
