-- Laws of what is left, of what was written, and of the count of faults.
use Rattle.std.proofs.Common.{◌≡◌, ℕ, ◌+◌, ◌<◌, ◌≤◌, ◌⊎◌, inl, inr, List, [], ◌++◌, length, take, drop, Option, Some, None, refl, sym, ◌∙◌}
use Rattle.std.proofs.Common.{ap, append_assoc, arith, length-append, subst, nat_eq, cond}
use Rattle.std.proofs.lemmas.List.{append-nil, take-append-drop}
use Rattle.std.proofs.lemmas.List.Sums.{sum_by-append}
use Rattle.std.proofs.Math.Seq.{take-add}
use Rattle.dds_base.specs.Outside.{Took, IsEnded, Added, AddedPart, Rose, TookPast, line_ends}

-- nothing taken leaves what was left
pub took-none : (a : Option (List ℕ)) → Took a [] a
took-none None = tt
took-none (Some all) = refl

-- two pieces taken are their bytes taken
pub took-more : (a b c : Option (List ℕ)) (xs ys : List ℕ) → Took a xs b → Took b ys c → Took a (xs ++ ys) c
took-more None None None xs ys p q = tt
took-more None None (Some c) xs ys p q = absurd q
took-more None (Some b) c xs ys p q = absurd p
took-more (Some a) None c xs ys p q = absurd p
took-more (Some a) (Some b) None xs ys p q = absurd q
took-more (Some a) (Some b) (Some c) xs ys p q = p ∙ ap (λ rest. xs ++ rest) q ∙ sym (append_assoc xs ys c)

-- what was taken when nothing is left is all that was left
pub took-all : (all : List ℕ) (b : Option (List ℕ)) (xs : List ℕ) → Took (Some all) xs b → IsEnded b → all ≡ xs
took-all all None xs p e = absurd p
took-all all (Some rest) xs p e = p ∙ ap (λ r. xs ++ r) e ∙ append-nil xs

-- nothing added leaves what was written
pub added-none : (a : Option (List ℕ)) → Added a [] a
added-none None = tt
added-none (Some all) = sym (append-nil all)

-- two pieces added are their bytes added
pub added-more : (a b c : Option (List ℕ)) (xs ys : List ℕ) → Added a xs b → Added b ys c → Added a (xs ++ ys) c
added-more None None None xs ys p q = tt
added-more None None (Some c) xs ys p q = absurd q
added-more None (Some b) c xs ys p q = absurd p
added-more (Some a) None c xs ys p q = absurd p
added-more (Some a) (Some b) None xs ys p q = absurd q
added-more (Some a) (Some b) (Some c) xs ys p q = q ∙ ap (λ done. done ++ ys) p ∙ append_assoc a xs ys

-- a count that rose from where it came to by not falling, rose from the start
pub rose-later : (a b c : ℕ) → a ≤ b → b ≤ c → Rose b c → Rose a c
rose-later a b c p q r = grind arith

-- line ends of two pieces
pub line_ends-append : (xs ys : List ℕ) → line_ends (xs ++ ys) ≡ line_ends xs + line_ends ys
line_ends-append xs ys = sum_by-append (λ byte. cond (nat_eq byte 10) 1 0) xs ys

-- what was written up to a place, and a beginning of the rest
pub added-at : (a b c : Option (List ℕ)) (text piece : List ℕ) (at n : ℕ) → piece ≡ drop at text → Added a (take at text) b → Added b (take n piece) c →
    Added a (take (at + n) text) c
added-at a b c text piece at n e p q =
    let h : take at text ++ take n piece ≡ take (at + n) text = ap (λ xs. take at text ++ take n xs) e ∙ sym (take-add at n text) in
    subst (λ xs. Added a xs c) h (added-more a b c (take at text) (take n piece) p q)

-- what was written up to a place is a beginning of the text
pub part-at : (a b c : Option (List ℕ)) (text : List ℕ) (at : ℕ) → Added a (take at text) b → c ≡ b → AddedPart a text c
part-at a b c text at p e =
    record { part = take at text; rest = drop at text; whole = sym (take-append-drop at text); added = subst (λ x. Added a (take at text) x) (sym e) p }

-- a piece more than the limits allow
pub past-more : (a b c : Option (List ℕ)) (xs ys : List ℕ) (most_bytes most_lines : ℕ) → Took a xs b → Took b ys c →
    (most_bytes < length xs + length ys) ⊎ (most_lines < line_ends xs + line_ends ys) → TookPast a most_bytes most_lines c
past-more a b c xs ys most_bytes most_lines p q h =
    record {
      bytes = xs ++ ys;
      taken = took-more a b c xs ys p q;
      past = rw (length-append xs ys, line_ends-append xs ys) h;
    }

-- after a text that was added, a beginning of the next one is a beginning of both
pub part-after : (a b c : Option (List ℕ)) (xs ys : List ℕ) → Added a xs b → AddedPart b ys c → AddedPart a (xs ++ ys) c
part-after a b c xs ys p q =
    record {
      part = xs ++ q.part;
      rest = q.rest;
      whole = ap (λ zs. xs ++ zs) q.whole ∙ sym (append_assoc xs q.part q.rest);
      added = added-more a b c xs q.part p q.added;
    }

-- a beginning of a text is a beginning of a longer one
pub part-more : (a c : Option (List ℕ)) (xs ys : List ℕ) → AddedPart a xs c → AddedPart a (xs ++ ys) c
part-more a c xs ys q =
    record {
      part = q.part;
      rest = q.rest ++ ys;
      whole = ap (λ zs. zs ++ ys) q.whole ∙ append_assoc q.part q.rest ys;
      added = q.added;
    }

-- where it is told, what was left passes the limits too
pub past-told : (all : List ℕ) (c : Option (List ℕ)) (most_bytes most_lines : ℕ) → TookPast (Some all) most_bytes most_lines c →
    (most_bytes < length all) ⊎ (most_lines < line_ends all)
past-told all None most_bytes most_lines q = absurd q.taken
past-told all (Some rest) most_bytes most_lines q =
    let e : length all ≡ length q.bytes + length rest = ap length q.taken ∙ length-append q.bytes rest in
    let f : line_ends all ≡ line_ends q.bytes + line_ends rest = ap line_ends q.taken ∙ line_ends-append q.bytes rest in
    let h : (most_bytes < length q.bytes) ⊎ (most_lines < line_ends q.bytes) = q.past in
    elim h [ inl p ↦ inl (omega (arith, p, e)) | inr p ↦ inr (omega (arith, p, f)) ]
