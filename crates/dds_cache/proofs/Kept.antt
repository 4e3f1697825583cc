-- Laws of the pages that a cache holds.
use Rattle.std.proofs.Common.{ℕ, zero, suc, ◌≡◌, ◌+◌, ◌-◌, ◌<◌, ◌≤◌, Bool, true, false, cond, List, [], ◌∷◌, length, take, drop, nat_eq}
use Rattle.std.proofs.Common.{Option, Some, None, refl, sym, ◌∙◌, ap, subst, arith, is_some, length-take}
use Rattle.std.proofs.lemmas.Bool.Decides.{nat_tests}
use Rattle.std.specs.Map.{lookup_entry, remove_entry}
use Rattle.std.specs.Option.{option_map_or}
use Rattle.std.specs.FinMap.{insert}
use Rattle.std.proofs.lemmas.List.{take_all}
use Rattle.lru.specs.LruCache.{LruCache, lru_cache, put_entries, promoted}
use Rattle.lru.proofs.CallerLemmas.{Contains-lookup_entry}
use Rattle.dds_disk.specs.Pages.{Pages, page_at, ReadPage, WrotePage}
use Rattle.dds_disk.proofs.Pages.{page_at-insert}
use Rattle.dds_cache.specs.Kept.{Kept, held, first_used, after_use, IsOfDisk, IsSound}

-- where no entry of the number is held, taking it out changes nothing
pub remove-none : (kept : Kept) (n : ℕ) → held kept n ≡ None → remove_entry (nat_eq n) kept ≡ kept
remove-none [] n h = refl
remove-none (e ∷ es) n h = (elim (nat_eq n e.0) as (λ b. nat_eq n e.0 ≡ b → cond b es (e ∷ remove_entry (nat_eq n) es) ≡ e ∷ es) [
  | true ↦ λ t. cc
  | false ↦ λ t. ap (λ (r : Kept). e ∷ r) (remove-none es n (rw t at h))
]) refl

pub length-remove : (kept : Kept) (n : ℕ) → length (remove_entry (nat_eq n) kept) ≤ length kept
length-remove [] n = omega arith
length-remove (e ∷ es) n = elim (nat_eq n e.0) as (λ b. length (cond b es (e ∷ remove_entry (nat_eq n) es)) ≤ length (e ∷ es)) [
  | true ↦ omega arith
  | false ↦ omega (arith, length-remove es n)
]

-- the keys that pass the test of a number are that number
pub key-is : (n k : ℕ) → nat_eq n k ≡ true → k ≡ n
key-is n k t = grind (arith, nat_tests)

pub no-entry : (kept : Kept) (n : ℕ) → lookup_entry (nat_eq n) kept ≡ None → held kept n ≡ None
no-entry [] n h = refl
no-entry (e ∷ es) n h = (elim (nat_eq n e.0) as (λ b. nat_eq n e.0 ≡ b → cond b (Some e.1) (held es n) ≡ None) [
  | true ↦ λ t. let h' = rw t at h in cc
  | false ↦ λ t. no-entry es n (rw t at h)
]) refl

same-pair : (e : ℕ × List ℕ) (n : ℕ) (bytes : List ℕ) → e.0 ≡ n → e.1 ≡ bytes → e ≡ (n, bytes)
same-pair e n bytes p q = λ i. (p i, q i)

-- a page that is held stands under its own number
pub entry-is : (kept : Kept) (n : ℕ) (bytes : List ℕ) → held kept n ≡ Some bytes → lookup_entry (nat_eq n) kept ≡ Some (n, bytes)
entry-is [] n bytes h = cc
entry-is (e ∷ es) n bytes h = (elim (nat_eq n e.0) as (λ b. nat_eq n e.0 ≡ b → cond b (Some e) (lookup_entry (nat_eq n) es) ≡ Some (n, bytes)) [
  | true ↦ λ t. let h' = rw t at h in let v : e.1 ≡ bytes = cc in ap (λ (x : ℕ × List ℕ). Some x) (same-pair e n bytes (key-is n e.0 t) v)
  | false ↦ λ t. entry-is es n bytes (rw t at h)
]) refl

entry-key : (kept : Kept) (n : ℕ) (e : ℕ × List ℕ) → lookup_entry (nat_eq n) kept ≡ Some e → e.0 ≡ n
entry-key kept n e h = key-is n e.0 (Contains-lookup_entry (nat_eq n) kept e h).1

put-by : (kept : Kept) (room n : ℕ) (bytes : List ℕ) (o : Option (ℕ × List ℕ)) → length kept ≤ room → lookup_entry (nat_eq n) kept ≡ o →
    option_map_or (λ e. (e.0, bytes) ∷ remove_entry (nat_eq n) kept) o ((n, bytes) ∷ take room kept) ≡ first_used kept n bytes
put-by kept room n bytes None within h =
    ap (λ (r : Kept). (n, bytes) ∷ r) (take_all room kept within ∙ sym (remove-none kept n (no-entry kept n h)))
put-by kept room n bytes (Some e) within h =
    ap (λ (k : ℕ). (k, bytes) ∷ remove_entry (nat_eq n) kept) (entry-key kept n e h)

-- a cache with room puts the page first
pub put-seen : (kept : Kept) (cap n : ℕ) (bytes : List ℕ) → length kept < cap → put_entries nat_eq (lru_cache kept cap) n bytes ≡ first_used kept n bytes
put-seen kept cap n bytes within = put-by kept (cap - 1) n bytes (lookup_entry (nat_eq n) kept) (omega arith) refl

-- a page that is held and used stands first with the bytes it has
pub promoted-seen : (kept : Kept) (n : ℕ) (bytes : List ℕ) → held kept n ≡ Some bytes → promoted (nat_eq n) kept ≡ first_used kept n bytes
promoted-seen kept n bytes h = ap (λ o. option_map_or (λ e. e ∷ remove_entry (nat_eq n) kept) o kept) (entry-is kept n bytes h)

-- taking out a page that is held makes the list shorter
pub length-remove-held : (kept : Kept) (n : ℕ) (bytes : List ℕ) → held kept n ≡ Some bytes → length (remove_entry (nat_eq n) kept) + 1 ≡ length kept
length-remove-held [] n bytes h = cc
length-remove-held (e ∷ es) n bytes h = (elim (nat_eq n e.0) as (λ b. nat_eq n e.0 ≡ b →
    length (cond b es (e ∷ remove_entry (nat_eq n) es)) + 1 ≡ length (e ∷ es)) [
      | true ↦ λ t. omega arith
      | false ↦ λ t. let rest = length-remove-held es n bytes (rw t at h) in omega arith
    ]) refl

-- a page that is held takes no further place when it is used
pub use-held : (kept : Kept) (capacity n : ℕ) (bytes now : List ℕ) → held kept n ≡ Some bytes → length kept ≤ capacity →
    after_use capacity kept n now ≡ first_used kept n now
use-held kept capacity n bytes now h within =
    let e = length-remove-held kept n bytes h in
    take_all capacity (first_used kept n now) (omega arith)

-- looking up another number doesn't see the page taken out
held-remove : (kept : Kept) (n q : ℕ) → nat_eq q n ≡ false → held (remove_entry (nat_eq n) kept) q ≡ held kept q
held-remove [] n q d = refl
held-remove (e ∷ es) n q d = (elim (nat_eq n e.0) as (λ b. nat_eq n e.0 ≡ b → held (cond b es (e ∷ remove_entry (nat_eq n) es)) q ≡ held (e ∷ es) q) [
  | true ↦ λ t. let k : e.0 ≡ n = key-is n e.0 t in let f : nat_eq q e.0 ≡ false = ap (nat_eq q) k ∙ d in rw f
  | false ↦ λ t. ap (cond (nat_eq q e.0) (Some e.1)) (held-remove es n q d)
]) refl

held-first : (kept : Kept) (n q : ℕ) (bytes : List ℕ) → held (first_used kept n bytes) q ≡ cond (nat_eq q n) (Some bytes) (held kept q)
held-first kept n q bytes = (elim (nat_eq q n) as (λ b. nat_eq q n ≡ b →
    cond b (Some bytes) (held (remove_entry (nat_eq n) kept) q) ≡ cond b (Some bytes) (held kept q)) [
      | true ↦ λ t. refl
      | false ↦ λ t. held-remove kept n q t
    ]) refl

-- what the first pages hold, all hold
held-take : (m : ℕ) (kept : Kept) (q : ℕ) (bytes : List ℕ) → held (take m kept) q ≡ Some bytes → held kept q ≡ Some bytes
held-take zero kept q bytes h = cc
held-take (suc m) [] q bytes h = h
held-take (suc m) (e ∷ es) q bytes h = (elim (nat_eq q e.0) as (λ b. nat_eq q e.0 ≡ b → cond b (Some e.1) (held es q) ≡ Some bytes) [
  | true ↦ λ t. rw t at h
  | false ↦ λ t. held-take m es q bytes (rw t at h)
]) refl

read-by : (a : Pages) (kept : Kept) (n q : ℕ) (bytes page : List ℕ) → IsOfDisk (Some a) kept → bytes ≡ page_at a n →
    cond (nat_eq q n) (Some bytes) (held kept q) ≡ Some page → page ≡ page_at a q
read-by a kept n q bytes page h is = (elim (nat_eq q n) as (λ b. nat_eq q n ≡ b → cond b (Some bytes) (held kept q) ≡ Some page → page ≡ page_at a q) [
  | true ↦ λ t e. let same : bytes ≡ page = cc in sym same ∙ is ∙ ap (page_at a) (key-is q n t)
  | false ↦ λ t e. h q page e
]) refl

write-by : (a : Pages) (kept : Kept) (n q : ℕ) (bytes page : List ℕ) → IsOfDisk (Some a) kept → cond (nat_eq q n) (Some bytes) (held kept q) ≡ Some page →
    page ≡ page_at (insert a n bytes) q
write-by a kept n q bytes page h = (elim (nat_eq q n) as (λ b. nat_eq q n ≡ b → cond b (Some bytes) (held kept q) ≡ Some page →
    page ≡ page_at (insert a n bytes) q) [
      | true ↦ λ t e. let same : bytes ≡ page = cc in let k : nat_eq n q ≡ true = grind (arith, nat_tests) in
          sym same ∙ sym (page_at-insert a n bytes q ∙ ap (λ b. cond b bytes (page_at a q)) k)
      | false ↦ λ t e. let k : nat_eq n q ≡ false = grind (arith, nat_tests) in
          h q page e ∙ sym (page_at-insert a n bytes q ∙ ap (λ b. cond b bytes (page_at a q)) k)
    ]) refl

-- no page is held that isn't the disk's: after a page was read
pub of-disk-read : (a b : Option Pages) (kept : Kept) (capacity n : ℕ) (bytes : List ℕ) → IsOfDisk a kept → ReadPage a n bytes b →
    IsOfDisk b (after_use capacity kept n bytes)
of-disk-read None None kept capacity n bytes h r = tt
of-disk-read None (Some b) kept capacity n bytes h r = absurd r
of-disk-read (Some a) None kept capacity n bytes h r = absurd r
of-disk-read (Some a) (Some b) kept capacity n bytes h r = λ q page is.
    let was = held-first kept n q bytes in
    let found = held-take capacity (first_used kept n bytes) q page is in
    subst (λ (p : Pages). page ≡ page_at p q) (sym r.1) (read-by a kept n q bytes page h r.0 (sym was ∙ found))

-- and after a page was written
pub of-disk-write : (a b : Option Pages) (kept : Kept) (capacity n : ℕ) (bytes : List ℕ) → IsOfDisk a kept → WrotePage a n bytes b →
    IsOfDisk b (after_use capacity kept n bytes)
of-disk-write None None kept capacity n bytes h w = tt
of-disk-write None (Some b) kept capacity n bytes h w = absurd w
of-disk-write (Some a) None kept capacity n bytes h w = absurd w
of-disk-write (Some a) (Some b) kept capacity n bytes h w = λ q page is.
    let was = held-first kept n q bytes in
    let found = held-take capacity (first_used kept n bytes) q page is in
    subst (λ (p : Pages). page ≡ page_at p q) (sym w) (write-by a kept n q bytes page h (sym was ∙ found))

-- a page that is held reads as the disk's
pub held-is-read : (a : Option Pages) (kept : Kept) (n : ℕ) (bytes : List ℕ) → IsOfDisk a kept → held kept n ≡ Some bytes → ReadPage a n bytes a
held-is-read None kept n bytes h is = tt
held-is-read (Some a) kept n bytes h is = (h n bytes is, refl)

-- a page that was put first and is taken back leaves what was held
pub taken-back : (kept : Kept) (n : ℕ) (bytes : List ℕ) → held kept n ≡ None → drop 1 (first_used kept n bytes) ≡ kept
taken-back kept n bytes h = remove-none kept n h

-- a page that is held, used with other bytes
pub use-again : (kept : Kept) (capacity n : ℕ) (bytes : List ℕ) (o : Option (List ℕ)) → held kept n ≡ o → is_some o ≡ true → length kept ≤ capacity →
    first_used kept n bytes ≡ after_use capacity kept n bytes
use-again kept capacity n bytes None h t within = cc
use-again kept capacity n bytes (Some was) h t within = sym (use-held kept capacity n was bytes h within)

not-held : (o : Option (List ℕ)) → is_some o ≡ false → o ≡ None
not-held None h = refl
not-held (Some x) h = cc

pub none-held : (kept : Kept) (n : ℕ) → is_some (held kept n) ≡ false → held kept n ≡ None
none-held kept n h = not-held (held kept n) h

abbrev Pages-held : Type 0
Pages-held = LruCache ℕ (List ℕ)

-- one page more than was held is no more than there is room for
pub first-within : {a : Option Pages} {p : Pages-held} {capacity : ℕ} (q : Pages-held) (n : ℕ) (bytes : List ℕ) → IsSound a p.entries p.cap capacity →
    q ≡ lru_cache (first_used p.entries n bytes) p.cap → length q.entries ≤ capacity + 1
first-within {p = p} q n bytes s e = let h = length-remove p.entries n in rw e (omega (arith, h, s.within))

-- what is held after a page was put first and the last ones left
pub trimmed : (p q r : Pages-held) (capacity n : ℕ) (copy bytes : List ℕ) → q ≡ lru_cache (first_used p.entries n copy) p.cap →
    r ≡ lru_cache (take capacity q.entries) q.cap → copy ≡ bytes →
    r ≡ lru_cache (after_use capacity p.entries n bytes) p.cap
trimmed p q r capacity n copy bytes h e same = e ∙ rw (h, same) refl

-- what is held after a page that was held was put first with other bytes
pub used-again : (a : Option Pages) (p q : Pages-held) (capacity n : ℕ) (copy bytes : List ℕ) → IsSound a p.entries p.cap capacity →
    q ≡ lru_cache (first_used p.entries n copy) p.cap → copy ≡ bytes →
    is_some (held p.entries n) ≡ true → q ≡ lru_cache (after_use capacity p.entries n bytes) p.cap
used-again a p q capacity n copy bytes s h same there =
    h ∙ ap (λ (kept : Kept). lru_cache kept p.cap) (ap (first_used p.entries n) same
    ∙ use-again p.entries capacity n bytes (held p.entries n) refl there s.within)

-- the page that was put first was taken back
pub as-before : (p q r : Pages-held) (n : ℕ) (bytes : List ℕ) → is_some (held p.entries n) ≡ false → q ≡ lru_cache (first_used p.entries n bytes) p.cap →
    r ≡ lru_cache (drop 1 q.entries) q.cap → r ≡ p
as-before p q r n bytes missing h e = e ∙ rw h (ap (λ (kept : Kept). lru_cache kept p.cap) (taken-back p.entries n bytes (none-held p.entries n missing)))

-- the same pages told, and the same pages held
pub sound-same : {a : Option Pages} {p : Pages-held} {capacity : ℕ} (b : Option Pages) (q : Pages-held) → IsSound a p.entries p.cap capacity →
    b ≡ a → q ≡ p → IsSound b q.entries q.cap capacity
sound-same b q s e f = rw (e, f) s

pub within-capacity : (capacity : ℕ) (kept : Kept) → length (take capacity kept) ≤ capacity
within-capacity capacity kept = let h = length-take capacity kept in omega (arith, h)

-- a page was read and is held
pub sound-read : {a : Option Pages} {p : Pages-held} {capacity : ℕ} (b : Option Pages) (q : Pages-held) (n : ℕ) (bytes : List ℕ) →
    IsSound a p.entries p.cap capacity →
    ReadPage a n bytes b → q ≡ lru_cache (after_use capacity p.entries n bytes) p.cap → IsSound b q.entries q.cap capacity
sound-read {a = a} {p = p} {capacity = capacity} b q n bytes s told e =
    rw e record {
      one_more = s.one_more;
      within = within-capacity capacity (first_used p.entries n bytes);
      some = s.some;
      few = s.few;
      of_disk = of-disk-read a b p.entries capacity n bytes s.of_disk told;
    }

-- a page was written and is held
pub sound-write : {a : Option Pages} {p : Pages-held} {capacity : ℕ} (b : Option Pages) (q : Pages-held) (n : ℕ) (bytes : List ℕ) →
    IsSound a p.entries p.cap capacity →
    WrotePage a n bytes b → q ≡ lru_cache (after_use capacity p.entries n bytes) p.cap → IsSound b q.entries q.cap capacity
sound-write {a = a} {p = p} {capacity = capacity} b q n bytes s told e =
    rw e record {
      one_more = s.one_more;
      within = within-capacity capacity (first_used p.entries n bytes);
      some = s.some;
      few = s.few;
      of_disk = of-disk-write a b p.entries capacity n bytes s.of_disk told;
    }

-- a page that was found stands first
pub found-used : {a : Option Pages} {p : Pages-held} {capacity : ℕ} (q : Pages-held) (n : ℕ) (bytes : List ℕ) → IsSound a p.entries p.cap capacity →
    held p.entries n ≡ Some bytes → q ≡ lru_cache (first_used p.entries n bytes) p.cap →
    q ≡ lru_cache (after_use capacity p.entries n bytes) p.cap
found-used {p = p} {capacity = capacity} q n bytes s is e = e
    ∙ ap (λ (kept : Kept). lru_cache kept p.cap) (sym (use-held p.entries capacity n bytes bytes is s.within))

-- a look at the pages held keeps a cache sound, whether it finds the page or not
pub sound-look : {a : Option Pages} {p : Pages-held} {capacity : ℕ} (q : Pages-held) (n : ℕ) (bytes : List ℕ) (b : Bool) → IsSound a p.entries p.cap capacity →
    (b ≡ true → (held p.entries n ≡ Some bytes) × (q ≡ lru_cache (first_used p.entries n bytes) p.cap)) → (b ≡ false → (held p.entries n ≡ None) × (q ≡ p)) →
    IsSound a q.entries q.cap capacity
sound-look {a = a} {p = p} {capacity = capacity} q n bytes true s found missing =
    let h = found refl in
    sound-read a q n bytes s (held-is-read a p.entries n bytes s.of_disk h.0) (found-used q n bytes s h.0 h.1)
sound-look q n bytes false s found missing = sound-same _ q s refl (missing refl).1

-- the page that was used last is held
pub held-used : (capacity : ℕ) (kept : Kept) (n : ℕ) (bytes : List ℕ) → 0 < capacity → held (after_use capacity kept n bytes) n ≡ Some bytes
held-used zero kept n bytes h = absurd (omega arith)
held-used (suc m) kept n bytes h = let same : nat_eq n n ≡ true = grind (arith, nat_tests) in rw same

-- a page that was used is held
own-number : (n : ℕ) → nat_eq n n ≡ true
own-number n = grind (arith, nat_tests)

pub held-in-front : (capacity : ℕ) (kept : Kept) (n : ℕ) (bytes : List ℕ) → 0 < capacity → held (after_use capacity kept n bytes) n ≡ Some bytes
held-in-front zero kept n bytes some = absurd (omega arith)
held-in-front (suc c) kept n bytes some = ap (λ (t : Bool). cond t (Some bytes) (held (take c (remove_entry (nat_eq n) kept)) n)) (own-number n)
