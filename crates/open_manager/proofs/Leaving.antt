-- Tables that jobs have left.
use Rattle.std.proofs.Common.{◌≡◌, ℕ, ◌<◌, ◌≤◌, Bool, true, false, not, ◌&&◌, ◌||◌, eqb, sym, refl, ap, ◌∙◌, ap₂, arith}
use mathlib.Core.Path.{fun_ext}
use Rattle.std.proofs.lemmas.Bool.{eq-eqb}
use Rattle.std.proofs.lemmas.Bool.Decides.{nat_tests}
use Rattle.jobs.specs.Sets.{how_many}
use Rattle.jobs.proofs.Sets.{how_many_le, how_many_less}
use Rattle.open_manager.specs.declared.OpenTables.{OpenTables}
use Rattle.open_manager.specs.Lists.{leaving}
use Rattle.open_manager.specs.Order.{precedes, reads_from, is_pending}
use Rattle.open_manager.specs.Open.{writers_in, Left}
use Rattle.open_manager.proofs.Lists.{leaving_none, leaving_twice}

-- nobody left
pub left_none : (t : OpenTables) (gone : ℕ → Bool) → ((k : ℕ) → gone k ≡ false) → Left t gone t
left_none t gone none = record {
  count = refl;
  readers = λ p k. let x = none k in grind (arith, nat_tests);
  writers = λ p. sym (leaving_none gone none (writers_in t p));
  precedes = λ i k. let x = none i in let y = none k in grind (arith, nat_tests);
  reads_from = λ k i. let x = none i in let y = none k in grind (arith, nat_tests);
  pending = λ k. let x = none k in grind (arith, nat_tests);
  voted = λ k. let x = none k in grind (arith, nat_tests);
}

-- a pair of jobs of which neither left, neither before nor then
twice : (r gi gk hi hk : Bool) → ((r && (not gi && not gk)) && (not hi && not hk)) ≡ (r && (not (gi || hi) && not (gk || hk)))
twice r gi gk hi hk = grind (arith, nat_tests)

pair_twice : (r s gi gk hi hk : Bool) {u ai ak : Bool} → s ≡ (r && (not gi && not gk)) → u ≡ (s && (not hi && not hk)) → ai ≡ (gi || hi) → ak ≡ (gk || hk)
    → u ≡ (r && (not ai && not ak))
pair_twice r s gi gk hi hk a b i k =
    b ∙ ap (λ (x : Bool). x && (not hi && not hk)) a ∙ twice r gi gk hi hk ∙ ap₂ (λ (x y : Bool). r && (not x && not y)) (sym i) (sym k)

-- some left, and then others
pub left_twice : (t u v : OpenTables) (g h all : ℕ → Bool) → ((k : ℕ) → all k ≡ (g k || h k)) → Left t g u → Left u h v → Left t all v
left_twice t u v g h all e a b = record {
  count = b.count ∙ a.count;
  readers = λ p k. let x = a.readers p k in let y = b.readers p k in let z = e k in grind (arith, nat_tests);
  writers = λ p.
      b.writers p ∙ ap (leaving h) (a.writers p) ∙ leaving_twice g h (writers_in t p)
      ∙ ap (λ (f : ℕ → Bool). leaving f (writers_in t p)) (fun_ext (λ k. sym (e k)));
  precedes = λ i k. pair_twice (precedes t.order i k) (precedes u.order i k) (g i) (g k) (h i) (h k) (a.precedes i k) (b.precedes i k) (e i) (e k);
  reads_from = λ k i. pair_twice (reads_from t.order k i) (reads_from u.order k i) (g k) (g i) (h k) (h i) (a.reads_from k i) (b.reads_from k i) (e k) (e i);
  pending = λ k. let x = a.pending k in let y = b.pending k in let z = e k in grind (arith, nat_tests);
  voted = λ k. let x = a.voted k in let y = b.voted k in let z = e k in grind (arith, nat_tests);
}

-- no more jobs are pending than before
pub left_fewer : (t u : OpenTables) (gone : ℕ → Bool) → Left t gone u → how_many (is_pending u.order) 16 ≤ how_many (is_pending t.order) 16
left_fewer t u gone l = how_many_le (is_pending u.order) (is_pending t.order) (λ k h. let x = l.pending k in grind (arith, nat_tests)) 16

-- and fewer where a pending job left
pub left_less : (t u : OpenTables) (j : ℕ) → j < 16 → is_pending t.order j ≡ true → Left t (λ k. eqb k j) u
    → how_many (is_pending u.order) 16 < how_many (is_pending t.order) 16
left_less t u j low h l =
    how_many_less (is_pending u.order) (is_pending t.order) (λ k m. let x = l.pending k in grind (arith, nat_tests)) j
    (let x = l.pending j in let y = eq-eqb j j refl in grind (arith, nat_tests)) h 16 low
