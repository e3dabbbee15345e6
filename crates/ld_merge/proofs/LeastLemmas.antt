-- One processor more is looked at.
use Rattle.std.proofs.Common.{ℕ, ◌≡◌, ◌<◌, ◌≤◌, ◌+◌, Bool, true, false, List, Option, Some, None, arith, below_more, get_or, if◌then◌else◌, nat_lt, refl, subst, sym}
use Rattle.std.proofs.lemmas.Bool.{ltb-true, ltb-false}
use Rattle.ld_pages.specs.declared.cursor.Item.{Item}
use Rattle.ld_pages.specs.Pages.{time_of}
use Rattle.ld_merge.specs.declared.entry.Entry.{Entry}
use Rattle.ld_merge.specs.declared.head.Head.{Head}
use Rattle.ld_merge.specs.Heads.{IsLeast, IsLeastOf, entry, pick}

-- Where no processor has an item, each entry is the least.
none_least : (e : Entry) (k : ℕ) (item : Option Item) → IsLeastOf None k item → IsLeastOf (Some e) k item
none_least e k None none = tt
none_least e k (Some i) none = absurd none

-- What is earlier than the least is the least.
earlier_least : (b e : Entry) (k : ℕ) (item : Option Item) → time_of e.item < time_of b.item → IsLeastOf (Some b) k item → IsLeastOf (Some e) k item
earlier_least b e k None before least = tt
earlier_least b e k (Some i) before least = record {
  no_later = omega (arith, least.no_later);
  tie = λ same. absurd (omega (arith, least.no_later));
}

itself_least : (n : ℕ) (i : Item) → IsLeastOf (Some (entry n i)) n (Some i)
itself_least n i = record { no_later = omega arith; tie = λ same. omega arith }

-- What holds of the first n heads and of the next holds of all of these.
one_more : (heads : List Head) (n : ℕ) (best : Option Entry) (item : Option Item) → ((d : Head) → (get_or heads n d).item ≡ item)
    → ((k : ℕ) (d : Head) → k < n → IsLeastOf best k (get_or heads k d).item) → IsLeastOf best n item
    → (k : ℕ) (d : Head) → k < n + 1 → IsLeastOf best k (get_or heads k d).item
one_more heads n best item at below here = λ k d lt.
    below_more (λ j. (x : Head) → IsLeastOf best j (get_or heads j x).item) n
    (λ j jlt x. below j x jlt)
    (λ x. subst (λ y. IsLeastOf best n y) (sym (at x)) here)
    k lt d

pub least_more : (heads : List Head) (n : ℕ) (best : Option Entry) (item : Option Item) → ((d : Head) → (get_or heads n d).item ≡ item)
    → IsLeast heads n best → IsLeast heads (n + 1) (pick best n item)
least_more heads n None None at old = record { found = tt; least = one_more heads n None None at old.least tt }
least_more heads n (Some b) None at old = record {
  found = (omega (arith, old.found.0), old.found.1);
  least = one_more heads n (Some b) None at old.least tt;
}
least_more heads n None (Some i) at old = record {
  found = (omega arith, at);
  least = one_more heads n (Some (entry n i)) (Some i) at (λ k d lt. none_least (entry n i) k (get_or heads k d).item (old.least k d lt)) (itself_least n i);
}
least_more heads n (Some b) (Some i) at old = by (nat_lt (time_of i) (time_of b.item)) refl
  where
    by : (t : Bool) → nat_lt (time_of i) (time_of b.item) ≡ t → IsLeast heads (n + 1) (if t then Some (entry n i) else Some b)
    by true is =
        let before : time_of i < time_of b.item = ltb-true (time_of i) (time_of b.item) is in
        record {
          found = (omega arith, at);
          least = one_more heads n (Some (entry n i)) (Some i) at
              (λ k d lt. earlier_least b (entry n i) k (get_or heads k d).item before (old.least k d lt)) (itself_least n i);
        }
    by false is =
        let after : time_of b.item ≤ time_of i = ltb-false (time_of i) (time_of b.item) is in
        record {
          found = (omega (arith, old.found.0), old.found.1);
          least = one_more heads n (Some b) (Some i) at old.least
              (record { no_later = after; tie = λ same. omega (arith, old.found.0) });
        }
