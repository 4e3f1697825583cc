-- Each kind of field is exact.
use Rattle.std.proofs.Common.{ℕ, ◌≡◌, ◌^◌, ◌<◌, ◌≤◌, ◌&&◌, Bool, true, false, cond, nat_lt, nat_le, List, ◌++◌, length, take, drop, Option}
use Rattle.std.proofs.Common.{Some, None, Ok, Err, refl, sym, ◌∙◌, ap, subst, arith, append_assoc, length-append, lit<}
use Rattle.std.specs.Prelude.{IsTrue}
use Rattle.std.proofs.lemmas.Bool.Decides.{nat_tests}
use Rattle.std.proofs.lemmas.Bool.{ltb-false, le-ltb}
use Rattle.std.proofs.lemmas.List.{take-append-drop, take_at, drop_at, length-take}
use Rattle.std.proofs.Math.Pow.{pow_mono}
use Rattle.dds_base.specs.Number.{Txn, StampOf, is_maker}
use Rattle.dds_base.specs.Name.{Name}
use Rattle.dds_base.specs.declared.number.CallNo.{CallNo}
use Rattle.dds_base.specs.declared.op.Op.{Op}
use Rattle.dds_base.specs.declared.op.Op.TheVariants.{Get as GetOp, Put, Remove, Swap}
use Rattle.dds_base.specs.declared.pending.TxnStatus.{TxnStatus}
use Rattle.dds_base.specs.declared.pending.TxnStatus.TheVariants as status
use Rattle.dds_frames.specs.Ranges.{IsTxn, IsCaller, IsCall, IsWord, IsName, IsStamp, IfThere, IsValue, IsUpdate}
use Rattle.dds_frames.specs.Spelling.{number_bytes, flag_bytes, txn_bytes, name_bytes, stamp_bytes, optional_bytes, after_bytes}
use Rattle.dds_frames.specs.Spelling.{value_bytes, update_bytes, status_bytes}
use Rattle.dds_frames.specs.Reading.{Reading, tested_at, number_at, kind_at}
use Rattle.dds_frames.specs.Parts.{flag_at, flag_kinds, txn_at, caller_at, call_at, name_at, stamp_at, optional_kinds, after_at, value_at}
use Rattle.dds_frames.specs.Parts.{update_at, update_kinds, status_at, status_kinds}
use Rattle.dds_frames.proofs.Exact.{Was, Exact, bind_ok, guard_ok, guard_err, then_within, bytes-drop, number_exact, tested_exact}
use Rattle.dds_frames.proofs.Exact.{both_exact, ◌&&&◌, made_again, made_behind, made_exact, kind_again, kind_alone, kind_exact, kind_behind}

flag_again : (flag : Bool) (rest : List ℕ) → flag_at (flag_bytes flag ++ rest) ≡ Ok (flag, rest)
unfolding flag_at flag_bytes
flag_again false rest = kind_alone flag_kinds 0 rest (lit< tt)
flag_again true rest = kind_alone flag_kinds 1 rest (lit< tt)

pub flag_exact : Exact (λ _. Unit {0}) flag_bytes flag_at
unfolding flag_at flag_bytes
flag_exact =
    kind_exact (λ _. Unit {0}) flag_bytes flag_kinds (kind_behind (number_bytes 1 0) false refl tt, (kind_behind (number_bytes 1 1) true refl tt, tt))
    (λ x rest f. flag_again x rest)

library-is : (n : ℕ) → IsTrue (nat_le 64 n && nat_lt n 80) → (64 ≤ n) × (n < 80)
library-is n h = (grind (arith, nat_tests, h), grind (arith, nat_tests, h))

library-back : (n : ℕ) → 64 ≤ n → n < 80 → IsTrue (nat_le 64 n && nat_lt n 80)
library-back n h k = grind (arith, nat_tests, h, k)

pub txn_exact : Exact IsTxn txn_bytes txn_at
unfolding txn_at txn_bytes
txn_exact =
    made_exact (tested_exact 1 (λ n. nat_le 64 n && nat_lt n 80) &&& number_exact 8) (λ f. record { library = f.0; number = f.1 })
    (λ (t : Txn). (t.library, t.number)) (λ t. refl) (λ a. refl)
    (λ a f. let l = library-is a.0 f.0.0 in record { library = l.0; node = l.1; number = f.1 })
    (λ t f. ((library-back t.library f.library f.node, omega (arith, f.node)), f.number))

caller-is : (n : ℕ) → IsTrue (nat_lt n 64) → n < 64
caller-is n h = grind (arith, nat_tests, h)

caller-back : (n : ℕ) → n < 64 → IsTrue (nat_lt n 64)
caller-back n h = grind (arith, nat_tests, h)

-- a condition said otherwise
pub said : {A : Type 0} {fa : A → Type 0} {sa : A → List ℕ} {ra : List ℕ → Reading A} (fb : A → Type 0) → Exact fa sa ra → ((a : A) → fa a → fb a) →
    ((a : A) → fb a → fa a) → Exact fb sa ra
said {A} {fa} {sa} {ra} fb exact to from = record {
  sound = λ bytes x rest b e. let w = exact.sound bytes x rest b e in record { whole = w.whole; fits = to x w.fits; left = w.left };
  again = λ x rest f. exact.again x rest (from x f);
  within = exact.within;
}

pub caller_exact : Exact IsCaller (number_bytes 1) caller_at
unfolding caller_at
caller_exact = said IsCaller (tested_exact 1 (λ n. nat_lt n 64)) (λ a f. caller-is a f.0) (λ a f. (caller-back a f, omega (arith, f)))

pub call_exact : Exact IsCall (λ call. number_bytes 4 call.0) call_at
unfolding call_at
call_exact = made_exact (number_exact 4) (λ n. record { 0 = n }) (λ (c : CallNo). c.0) (λ c. refl) (λ a. refl) (λ a f. f) (λ c f. f)

pub word_exact : Exact IsWord (number_bytes 8) (number_at 8)
word_exact = number_exact 8

pub le-is : (n m : ℕ) → IsTrue (nat_le n m) → n ≤ m
le-is n m h = grind (arith, nat_tests, h)

pub le-back : (n m : ℕ) → n ≤ m → IsTrue (nat_le n m)
le-back n m h = grind (arith, nat_tests, h)

lt-is : (n m : ℕ) → IsTrue (nat_lt n m) → n < m
lt-is n m h = grind (arith, nat_tests, h)

lt-back : (n m : ℕ) → n < m → IsTrue (nat_lt n m)
lt-back n m h = grind (arith, nat_tests, h)

power-within : (d : ℕ) → d ≤ 16 → 2 ^ d ≤ 2 ^ 16
power-within d h = pow_mono h

pub name_exact : Exact IsName name_bytes name_at
unfolding name_at name_bytes
name_exact =
    made_exact (both_exact (tested_exact 1 (λ d. nat_le d 16)) (λ d. tested_exact 2 (λ b. nat_lt b (2 ^ d)))) (λ f. record { bits = f.1; depth = f.0 })
    (λ (n : Name). (n.depth, n.bits)) (λ n. refl) (λ a. refl)
    (λ a f. record { depth = le-is a.0 16 f.0.0; bits = lt-is a.1 (2 ^ a.0) f.1.0 })
    (λ n f. let p = power-within n.depth f.depth in
    ((le-back n.depth 16 f.depth, omega (arith, f.depth)), (lt-back n.bits (2 ^ n.depth) f.bits, omega (arith, f.bits, p))))

maker-below : (n : ℕ) → IsTrue (is_maker n) → n < 256
maker-below n h = grind (arith, nat_tests, h)

pub stamp_exact : Exact IsStamp stamp_bytes stamp_at
unfolding stamp_at stamp_bytes
stamp_exact =
    made_exact (tested_exact 1 is_maker &&& number_exact 8) (λ f. record { maker = f.0; count = f.1 }) (λ (s : StampOf). (s.maker, s.count)) (λ s. refl)
    (λ a. refl)
    (λ a f. record { maker = f.0.0; count = f.1 })
    (λ s f. ((f.maker, maker-below s.maker f.maker), f.count))

-- ---- what may be absent

pub optional_again : {A : Type 0} {fits : A → Type 0} {spelled : A → List ℕ} {read : List ℕ → Reading A} → Exact fits spelled read →
    (x : Option A) (rest : List ℕ) → IfThere fits x →
    kind_at (optional_kinds read) (optional_bytes spelled x ++ rest) ≡ Ok (x, rest)
optional_again {A} {fits} {spelled} {read} exact None rest f = kind_alone (optional_kinds read) 0 rest (lit< tt)
optional_again {A} {fits} {spelled} {read} exact (Some x) rest f = kind_again (optional_kinds read) 1 (spelled x) rest (lit< tt)
    ∙ made_again exact Some x rest f

pub optional_exact : {A : Type 0} {fits : A → Type 0} {spelled : A → List ℕ} {read : List ℕ → Reading A} → Exact fits spelled read →
    Exact (IfThere fits) (optional_bytes spelled) (kind_at (optional_kinds read))
optional_exact {A} {fits} {spelled} {read} exact =
    kind_exact (IfThere fits) (optional_bytes spelled) (optional_kinds read) (
      kind_behind {fb = IfThere fits} {sb = optional_bytes spelled} (number_bytes 1 0) None refl tt,
      (made_behind {fb = IfThere fits} {sb = optional_bytes spelled} (number_bytes 1 1) exact Some (λ a. refl) (λ a f. f), tt),
    )
    (optional_again exact)

pub after_exact : Exact (IfThere IsWord) after_bytes after_at
unfolding after_at after_bytes
after_exact = optional_exact (number_exact 8)

-- ---- values and operations

pub value_exact : Exact IsValue value_bytes value_at
unfolding value_at value_bytes
value_exact = record {
  sound = λ bytes x rest b e.
      let p = bind_ok (tested_at 2 (λ n. nat_le n 60000) bytes) (λ n. cond (nat_lt (length n.1) n.0) (Err (length bytes)) (Ok (take n.0 n.1, drop n.0 n.1)))
      (x, rest) e in
      let g = guard_ok (nat_lt (length p.0.1) p.0.0) (length bytes) (take p.0.0 p.0.1, drop p.0.0 p.0.1) (x, rest) p.2 in
      let u = (tested_exact 2 (λ n. nat_le n 60000)).sound bytes p.0.0 p.0.1 b p.1 in
      let long : p.0.0 ≤ length p.0.1 = ltb-false _ _ g.0 in
      let len : length (take p.0.0 p.0.1) ≡ p.0.0 = omega (arith, length-take p.0.0 p.0.1) in
      let few = le-is p.0.0 60000 u.fits.0 in
      let parts : p.0.1 ≡ take p.0.0 p.0.1 ++ drop p.0.0 p.0.1 = sym (take-append-drop p.0.0 p.0.1) in
      let front : number_bytes 2 p.0.0 ≡ number_bytes 2 (length (take p.0.0 p.0.1)) = ap (number_bytes 2) (sym len) in
      subst (λ (y : List ℕ × List ℕ). Was IsValue value_bytes bytes y.0 y.1) g.1 record {
        whole = u.whole ∙ ap (λ (t : List ℕ). number_bytes 2 p.0.0 ++ t) parts ∙ ap (λ (t : List ℕ). t ++ (take p.0.0 p.0.1 ++ drop p.0.0 p.0.1)) front
            ∙ sym (append_assoc (number_bytes 2 (length (take p.0.0 p.0.1))) (take p.0.0 p.0.1) (drop p.0.0 p.0.1));
        fits = omega (arith, len, few);
        left = bytes-drop p.0.0 p.0.1 u.left;
      };
  again = λ x rest f.
      let long : nat_lt (length (x ++ rest)) (length x) ≡ false = le-ltb _ _ (omega (arith, length-append x rest)) in
      let e = (tested_exact 2 (λ n. nat_le n 60000)).again (length x) (x ++ rest) (le-back (length x) 60000 f, omega (arith, f)) in
      ap value_at (append_assoc (number_bytes 2 (length x)) x rest) ∙ rw (e, long, take_at x rest (length x) refl, drop_at x rest (length x) refl) refl;
  within = λ bytes left b e.
      then_within (tested_at 2 (λ n. nat_le n 60000) bytes) (λ n. cond (nat_lt (length n.1) n.0) (Err (length bytes)) (Ok (take n.0 n.1, drop n.0 n.1)))
      (length bytes)
      (λ l h. (tested_exact 2 (λ n. nat_le n 60000)).within bytes l b h)
      (λ n l h k. let same : length bytes ≡ l = guard_err (nat_lt (length n.1) n.0) (length bytes) (take n.0 n.1, drop n.0 n.1) l k in omega arith)
      left e;
}

update_again : (op : Op) (rest : List ℕ) → IsUpdate op → update_at (update_bytes op ++ rest) ≡ Ok (op, rest)
unfolding update_at update_bytes
update_again (GetOp key) rest f = absurd f
update_again (Put key value) rest f =
    kind_again update_kinds 1 (number_bytes 8 key ++ value_bytes value) rest (lit< tt)
    ∙ made_again (word_exact &&& value_exact) (λ (f : ℕ × List ℕ). Put f.0 f.1) (key, value) rest f
update_again (Remove key) rest f = kind_again update_kinds 2 (number_bytes 8 key) rest (lit< tt) ∙ made_again word_exact Remove key rest f
update_again (Swap key expected value) rest f =
    kind_again update_kinds 3 (number_bytes 8 key ++ (value_bytes expected ++ value_bytes value)) rest (lit< tt)
    ∙ made_again (word_exact &&& value_exact &&& value_exact) (λ (f : ℕ × (List ℕ × List ℕ)). Swap f.0 f.1.0 f.1.1) (key, (expected, value)) rest f

pub update_exact : Exact IsUpdate update_bytes update_at
unfolding update_at update_bytes
update_exact =
    kind_exact IsUpdate update_bytes update_kinds (
      made_behind {fb = IsUpdate} {sb = update_bytes} (number_bytes 1 1) (word_exact &&& value_exact) (λ (f : ℕ × List ℕ). Put f.0 f.1) (λ a. refl) (λ a f. f),
      (
        made_behind {fb = IsUpdate} {sb = update_bytes} (number_bytes 1 2) word_exact Remove (λ a. refl) (λ a f. f),
        (
          made_behind {fb = IsUpdate} {sb = update_bytes} (number_bytes 1 3) (word_exact &&& value_exact &&& value_exact)
              (λ (f : ℕ × (List ℕ × List ℕ)). Swap f.0 f.1.0 f.1.1) (λ a. refl) (λ a f. f),
          tt,
        ),
      ),
    )
    (update_again)

status_again : (s : TxnStatus) (rest : List ℕ) → status_at (status_bytes s ++ rest) ≡ Ok (s, rest)
unfolding status_at status_bytes
status_again status.NotPrepared rest = kind_alone status_kinds 0 rest (lit< tt)
status_again status.Prepared rest = kind_alone status_kinds 1 rest (lit< tt)
status_again status.Committed rest = kind_alone status_kinds 2 rest (lit< tt)
status_again status.Aborted rest = kind_alone status_kinds 3 rest (lit< tt)

pub status_exact : Exact (λ _. Unit {0}) status_bytes status_at
unfolding status_at status_bytes
status_exact =
    kind_exact (λ _. Unit {0}) status_bytes status_kinds (
      kind_behind (number_bytes 1 0) status.NotPrepared refl tt,
      (
        kind_behind (number_bytes 1 1) status.Prepared refl tt,
        (kind_behind (number_bytes 1 2) status.Committed refl tt, (kind_behind (number_bytes 1 3) status.Aborted refl tt, tt)),
      ),
    )
    (λ s rest f. status_again s rest)
