-- Parts of a line, read as whole numbers.
use Rattle.std.proofs.Common.{◌≡◌, ◌∙◌, ◌<◌, ◌≤◌, ◌+◌, ℕ, ap, ◌++◌, List, map, get_or, take, drop, ℤ, pos, ◌+ℤ◌, sym, unsigned_abs}
use Rattle.std.specs.Int.{int_max}
use Rattle.std.proofs.lemmas.List.{map-append, map-id, get_or-take, take-map, drop-map}
use Rattle.auction_model.proofs.PartReads.{read-part}
use Rattle.auction_model.proofs.RunLaws.{small-part}
use borrow.Rule.Slice.PartMut.{put_mid, post_of}

-- what is read if each number is the whole number itself
pub read-plain : (xs : List ℤ) (s : ℕ) → get_or (map (λ z. z) xs) s (pos 0) ≡ get_or xs s (pos 0)
read-plain xs s = ap (λ l. get_or l s (pos 0)) (map-id xs)

-- a run of whole numbers that was raised
pub plain-run : (line below old : List ℤ) (worth : ℤ) (s : ℕ) → get_or line s (pos 0) ≡ int_max (get_or old s (pos 0)) (worth +ℤ get_or below s (pos 0))
    → get_or (map (λ z. z) line) s (pos 0) ≡ int_max (get_or (map (λ z. z) old) s (pos 0)) (worth +ℤ get_or (map (λ z. z) below) s (pos 0))
plain-run line below old worth s h =
    read-plain line s ∙ h
    ∙ ap (λ z. int_max z (worth +ℤ get_or below s (pos 0))) (sym (read-plain old s))
    ∙ ap (λ z. int_max (get_or (map (λ z. z) old) s (pos 0)) (worth +ℤ z)) (sym (read-plain below s))

module _ {A : Type 0} (f : A → ℤ) where
  -- a part of a line
  pub map-part : (xs : List A) (from n : ℕ) → map f (take n (drop from xs)) ≡ take n (drop from (map f xs))
  map-part xs from n = sym (take-map f n (drop from xs)) ∙ ap (take n) (sym (drop-map f from xs))

  -- a line with a part written anew
  pub map-put : (a k : ℕ) (xs ys : List A) → map f (put_mid a k xs ys) ≡ put_mid a k (map f xs) (map f ys)
  map-put a k xs ys =
      map-append f (take a xs) (ys ++ post_of a k xs)
      ∙ ap (λ l. map f (take a xs) ++ l) (map-append f ys (post_of a k xs))
      ∙ ap (λ l. l ++ (map f ys ++ map f (post_of a k xs))) (sym (take-map f a xs))
      ∙ ap (λ l. take a (map f xs) ++ (map f ys ++ l)) (sym (drop-map f k (drop a xs)) ∙ ap (drop k) (sym (drop-map f a xs)))

  -- what is read of it
  pub read-put : (a k : ℕ) (xs ys : List A) (s : ℕ) → get_or (map f (put_mid a k xs ys)) s (pos 0) ≡ get_or (put_mid a k (map f xs) (map f ys)) s (pos 0)
  read-put a k xs ys s = ap (λ l. get_or l s (pos 0)) (map-put a k xs ys)

  -- what is read of a part
  pub read-number : (xs : List A) (from n i : ℕ) → i < n → get_or (map f (take n (drop from xs))) i (pos 0) ≡ get_or (map f xs) (from + i) (pos 0)
  read-number xs from n i h = ap (λ l. get_or l i (pos 0)) (map-part xs from n) ∙ read-part (map f xs) from n i h

  -- what is read of the first numbers
  pub read-first : (xs : List A) (n i : ℕ) → i < n → get_or (map f (take n xs)) i (pos 0) ≡ get_or (map f xs) i (pos 0)
  read-first xs n i h = ap (λ l. get_or l i (pos 0)) (sym (take-map f n xs)) ∙ get_or-take n (map f xs) i (pos 0) h

  -- a part has no larger numbers
  pub small-numbers : (xs : List A) (from n most : ℕ) → ((s : ℕ) → unsigned_abs (get_or (map f xs) s (pos 0)) ≤ most) → (s : ℕ)
      → unsigned_abs (get_or (map f (take n (drop from xs))) s (pos 0)) ≤ most
  small-numbers xs from n most small s = rw (map-part xs from n) (small-part (map f xs) from n most small s)
