-- What `put` takes, call by call, is the listing: in order, and all of it.
use mathlib.Core.Path.{◌≡◌, sym, ap, ◌∙◌}
use mathlib.Core.List.{List, [], ◌∷◌, ◌++◌}
use Prim.Native.Nat.{ℕ, ◌+◌}
use lib.ListN.{length, drop}
use lib.Seq.{drop-length, drop-append_seam, drop-append-add}
use Rattle.rules.specs.Listing.{listing_of}
use Rattle.listing.specs.Handed.{Next}

-- calls of `put` from n bytes on, each where the one before it ended, the last where the text ends
abbrev pub Puts : List ℕ → ℕ → List (List ℕ) → Type 0
Puts text n [] = n ≡ length text
Puts text n (b ∷ bs) = Next text n b × Puts text (n + length b) bs

abbrev pub joined : List (List ℕ) → List ℕ
joined [] = []
joined (b ∷ bs) = b ++ joined bs

rest_is : (text : List ℕ) (n : ℕ) (bs : List (List ℕ)) → Puts text n bs → joined bs ≡ drop n text
rest_is text n [] e = sym (ap (λ (k : ℕ). drop k text) e ∙ drop-length text)
rest_is text n (b ∷ bs) (k, c) =
    let l = k.before in
    let tail = b ++ k.after in
    let here : drop n text ≡ tail = (λ i. drop (k.long i) (k.is i)) ∙ drop-append_seam l tail in
    let past : drop (n + length b) text ≡ k.after = (λ i. drop (k.long i + length b) (k.is i)) ∙ drop-append-add l tail (length b) ∙ drop-append_seam b k.after in
    ap (λ (r : List ℕ). b ++ r) (rest_is text (n + length b) bs c ∙ past) ∙ sym here

pub in_order : (t : List ℕ) (bs : List (List ℕ)) → Puts (listing_of t) 0 bs → joined bs ≡ listing_of t
in_order t bs c = rest_is (listing_of t) 0 bs c
