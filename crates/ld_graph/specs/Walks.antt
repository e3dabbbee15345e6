-- Walks, distances and shown walks, over any type of class and any relation between classes, which
-- says that there is a step from one class to another.
use Rattle.std.specs.Prelude.{◌≡◌, ◌⊎◌, ℕ, ◌+◌, ◌<◌, ◌≤◌, List, [], ◌∷◌, length, Option, Some, MatchOption}

module _ {A : Type 0} (step : A → A → Type 0) where
  -- what follows the class a on a walk that ends with the class b: at least one class, each a step
  -- from the one before it, the last of them b
  abbrev pub LeadsTo : (a b : A) → List A → Type 0
  LeadsTo a b [] = ⊥
  LeadsTo a b (x ∷ []) = step a x × (x ≡ b)
  LeadsTo a b (x ∷ y ∷ more) = step a x × LeadsTo x b (y ∷ more)

  -- a walk from a to b: a list of at least two classes, each two neighbours a step, the first of
  -- them a and the last b
  abbrev pub IsWalk : (a b : A) → List A → Type 0
  IsWalk a b [] = ⊥
  IsWalk a b (x ∷ more) = (x ≡ a) × LeadsTo a b more

  -- there is a walk from a to b
  abbrev pub HasWalk : (a b : A) → Type 0
  HasWalk a b = (walk : List A) × IsWalk a b walk

  -- the classes are the same, or there is a walk from a to b
  abbrev pub Reaches : (a b : A) → Type 0
  Reaches a b = (a ≡ b) ⊎ HasWalk a b

  -- n is the least number of steps of a walk from a to b, which has one more class than steps
  pub record IsDistance (a b : A) (n : ℕ) : Type 0 where
    pub reached : (walk : List A) × (IsWalk a b walk × (length walk ≡ n + 1))
    pub least : (walk : List A) → IsWalk a b walk → n + 1 ≤ length walk

  -- the distance from a to b, or none where there is no walk
  abbrev pub DistanceIs : (a b : A) → Option ℕ → Type 0
  DistanceIs a b found = MatchOption found (¬ HasWalk a b) (IsDistance a b)

  -- Enough is known of the distances to b for the shown walk from a: whether there is a walk, and the
  -- distance from a; what is known of the classes that a leads to is right, and those of them that are
  -- nearer to b are known.
  pub record AreEnough (a b : A) (distance : A → Option ℕ) : Type 0 where
    pub own : DistanceIs a b (distance a)
    pub right : (c : A) (n : ℕ) → Reaches a c → distance c ≡ Some n → IsDistance c b n
    pub nearer : (c : A) (m n : ℕ) → Reaches a c → IsDistance c b m → distance a ≡ Some n → m < n
        → distance c ≡ Some m

-- Shown walks: which class comes before which is given.
module _ {A : Type 0} (step before : A → A → Type 0) where
  -- of the successors of a whose distance to b is n, y is the least
  pub record IsNext (a b : A) (n : ℕ) (y : A) : Type 0 where
    pub successor : step a y
    pub nearer : IsDistance step y b n
    pub least : (z : A) → step a z → IsDistance step z b n → ¬ before z y

  -- what follows the class a on the shown walk to b
  abbrev pub ShownFrom : (a b : A) → List A → Type 0
  ShownFrom a b [] = ⊥
  ShownFrom a b (x ∷ []) = IsDistance step a b 1 × (x ≡ b)
  ShownFrom a b (x ∷ y ∷ more) = ((n : ℕ) × (IsDistance step a b (n + 2) × IsNext a b (n + 1) x))
      × ShownFrom x b (y ∷ more)

  -- the shown walk from a to b: where the distance is 1, a and b; where it is more, a and then the
  -- shown walk from the least successor of a whose distance to b is one less
  abbrev pub IsShownWalk : (a b : A) → List A → Type 0
  IsShownWalk a b [] = ⊥
  IsShownWalk a b (x ∷ more) = (x ≡ a) × ShownFrom a b more
