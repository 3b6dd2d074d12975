-- The loop over entries: what has been put of their pool.
-- Assumes nothing.
use mathlib.Core.Path.{◌≡◌, refl, sym, ap, ◌∙◌, subst}
use mathlib.Core.Bool.{Bool}
use mathlib.Core.Logic.{inl, inr}
use mathlib.Core.List.{List, [], ◌++◌, map, append_assoc, append-nil}
use Prim.Native.Nat.{ℕ, suc, ◌+◌, ◌-◌, ◌≤◌, ◌<◌}
use native.Mathlib.Omega.{arith}
use lib.ListN.{length, get_or, set, length-append, length-set}
use lib.Seq.{sets, length-sets, get_or-set_same, get_or-set_other}
use Rattle.number.specs.Limits.{file_limit, row_limit}
use Rattle.number.proofs.Choice.{is_eq, no_eq}
use Rattle.number.proofs.Scans.{below}
use Rattle.iids.specs.Cells.{cell}
use Rattle.reader.specs.Values.{Entry}
use Rattle.meaning.specs.Normal.Normal.{own_pointer}
use Rattle.names.specs.Uses.{spelt, Spelt}
use Rattle.meaning.specs.Stock.Uses.{words_of, at_first, own_body}
use Rattle.meaning.specs.Stock.Pool.{Piece, word, pieces_of, words_in, pool_size}
use Rattle.meaning.specs.Stock.Form.{pool_with}
use Rattle.meaning.proofs.Stock.Pools.{words_map, words_append, pool_append}
use Rattle.meaning.proofs.Stock.Lengths.{length_pool}
use Rattle.places.specs.Noted.{body_use}
use Rattle.pieces.specs.Uses.{uses_with}
use Rattle.writing.specs.Wrote.{Room, Wrote}
use Rattle.writing.proofs.Lent.{rest, back, lent_after, length-rest}
use Rattle.pooling.specs.Tabled.{OwnLed, own_with, own_of, own_place, own_at, once_pool, Tabled, TablesFit, pointed_at, PutPool}
use Rattle.pooling.proofs.Come.{own_piece, own_words_lem, own_size_lem, own_pool, Come, Come-start, Come-at, Come-more, Come-total, Come-room, Come-uses, Come-stores}
use Rattle.pooling.proofs.Cuts.{after, left, cut, Ending, ending, after_uses, after_size}

-- ---- of entries us, pieces have been put and `left` is to come

module _ (f at : ℕ → ℕ) (us : List (Entry ℕ)) where
  abbrev kept : ℕ → Bool
  kept = at_first (words_of us)

  pub record Put (u w : ℕ) (before now : List ℕ) (more : List (Piece ℕ)) : Type 0 where
    pub come : Come us u w more
    pub done : List ℕ
    pub count : w ≡ length done
    pub bytes : pool_with f at kept 0 (pieces_of us) ≡ done ++ pool_with f at kept u more
    pub stored : now ≡ sets before 0 done

  pub Put-start : (l : List ℕ) → Put 0 0 l l (pieces_of us)
  Put-start l = record { come = Come-start us; done = []; count = refl; bytes = refl; stored = refl }

  module _ {u w : ℕ} {before now : List ℕ} where
    pub Put-as : {p q : List (Piece ℕ)} → p ≡ q → Put u w before now p → Put u w before now q
    Put-as e a = subst (Put u w before now) e a

    pub Put-at : {v : ℕ} {more : List (Piece ℕ)} → u ≡ v → Put u w before now more → Put v w before now more
    Put-at {v} {more} e a = subst (λ (k : ℕ). Put k w before now more) e a

    pub Put-kept : {more : List (Piece ℕ)} → Put u w before now more → length now ≡ length before
    Put-kept a = ap length a.stored ∙ length-sets before 0 a.done

    pub Put-more : (ps more : List (Piece ℕ)) (vs ys : List ℕ) (r : ℕ) → Put u w before now (ps ++ more) → vs ≡ pool_with f at kept u ps → r ≡ length vs → ys ≡ sets (rest now w) 0 vs
        → Put (u + length (words_in ps)) (w + r) before (back now w ys) more
    Put-more ps more vs ys r a v n e =
        let rest = pool_with f at kept (u + length (words_in ps)) more in
        record {
          come = Come-at us refl (omega (arith, n, ap length v, length_pool f at kept u ps)) (Come-more us ps more a.come);
          done = a.done ++ vs;
          count = omega (arith, a.count, n, length-append a.done vs);
          bytes = a.bytes ∙ ap (λ (t : List ℕ). a.done ++ t) (pool_append f at kept u ps more ∙ ap (λ (t : List ℕ). t ++ rest) (sym v)) ∙ sym (append_assoc a.done vs rest);
          stored = lent_after before now ys a.done vs w a.stored a.count e;
        }

-- ---- what stands in the tables

module _ (pool other : List ℕ) (n : ℕ) (words places befores bodies : List ℕ) (m c : ℕ) (f : ℕ → ℕ) where
  abbrev at : ℕ → ℕ
  at = cell places

  abbrev spell : ℕ → List ℕ
  spell = spelt pool other words

  abbrev Shown : List (Entry ℕ) → Type 0
  Shown = Tabled pool other n words places befores bodies m c

  module _ (us : List (Entry ℕ)) (t : Shown us) where
    stores : (ws : List (List ℕ)) (more : List (Piece ℕ)) (u w : ℕ) → Come us u w (map word ws ++ more) → uses_with at spell (length ws) u (1 + w) ≡ pool_with f at (at_first (words_of us)) u (map word ws)
    unfolding cell
    stores = Come-stores us f at spell (λ k l. t.placed.held k (omega (arith, t.uses))) (λ k l. t.spelling k (omega (arith, t.uses)))

    module _ {u w : ℕ} {before now : List ℕ} where
      -- the uses up to e, which are words of the pool
      pub Put-words : (ws : List (List ℕ)) (more : List (Piece ℕ)) (e : ℕ) → e ≡ u + length ws → (ys : List ℕ) (r : ℕ) → Put f at us u w before now (map word ws ++ more)
          → (r ≡ length (uses_with at spell (e - u) u (1 + w))) × (ys ≡ sets (rest now w) 0 (uses_with at spell (e - u) u (1 + w))) → Put f at us e (w + r) before (back now w ys) more
      Put-words ws more e h ys r a b =
          let z : e - u ≡ length ws = omega arith in
          let v = ap (λ (k : ℕ). uses_with at spell k u (1 + w)) z ∙ stores ws more u w a.come in
          let k : u + length (words_in {R = ℕ} (map word ws)) ≡ e = omega (arith, ap length (words_map ℕ ws)) in
          Put-at f at us k (Put-more f at us (map word ws) more (uses_with at spell (e - u) u (1 + w)) ys r a v b.0 b.1)

      pub words_room : (ws : List (List ℕ)) (more : List (Piece ℕ)) (e : ℕ) → e ≡ u + length ws → Put f at us u w before now (map word ws ++ more) → w + length (uses_with at spell (e - u) u (1 + w)) ≤ once_pool us
      unfolding once_pool
      words_room ws more e h a =
          let z : e - u ≡ length ws = omega arith in
          let v = ap (λ (k : ℕ). uses_with at spell k u (1 + w)) z ∙ stores ws more u w a.come in
          omega (arith, ap length v, length_pool f at (at_first (words_of us)) u (map word ws), Come-room us (map word ws) more a.come)

    -- ---- entry q is next

    abbrev gap : (q : ℕ) → q < length us → List (List ℕ)
    gap q l = (cut us q l).words

    module _ (q : ℕ) (l : q < length us) {u w : ℕ} {before now : List ℕ} where
      gap-Put : Put f at us u w before now (left us q) → Put f at us u w before now (map word (gap q l) ++ (own_piece (own_of us q) ++ after us q))
      gap-Put a = Put-as f at us (cut us q l).is a

      gap_uses : (e : ℕ) → e ≡ body_use us q → Put f at us u w before now (left us q) → e ≡ u + length (gap q l)
      gap_uses e h a =
          let d = own_of us q in
          let rest = after us q in
          omega (
            arith,
            Come-uses us (map word (gap q l) ++ (own_piece d ++ rest)) (gap-Put a).come,
            ap length (words_append (map word (gap q l)) (own_piece d ++ rest)),
            length-append (words_in {R = ℕ} (map word (gap q l))) (words_in (own_piece d ++ rest)),
            ap length (words_map ℕ (gap q l)),
            ap length (words_append (own_piece d) rest),
            length-append (words_in (own_piece d)) (words_in rest),
            ap length (own_words_lem d),
            after_uses us q l,
          )

      pub uses_Put : (e : ℕ) → e ≡ body_use us q → (ys : List ℕ) (r : ℕ) → Put f at us u w before now (left us q)
          → (r ≡ length (uses_with at spell (e - u) u (1 + w))) × (ys ≡ sets (rest now w) 0 (uses_with at spell (e - u) u (1 + w))) → Put f at us e (w + r) before (back now w ys) (own_piece (own_of us q) ++ after us q)
      uses_Put e h ys r a b = Put-words (gap q l) (own_piece (own_of us q) ++ after us q) e (gap_uses e h a) ys r (gap-Put a) b

      pub uses_room : (e : ℕ) → e ≡ body_use us q → Put f at us u w before now (left us q) → w + length (uses_with at spell (e - u) u (1 + w)) ≤ once_pool us
      uses_room e h a = words_room (gap q l) (own_piece (own_of us q) ++ after us q) e (gap_uses e h a) (gap-Put a)

      pub own_room : Put f at us u w before now (own_piece (own_of us q) ++ after us q) → w + own_body (own_of us q) ≤ once_pool us
      unfolding once_pool
      own_room a = omega (arith, Come-room us (own_piece (own_of us q)) (after us q) a.come, own_size_lem (at_first (words_of us)) u (own_of us q))

      pub own_Put : (ys : List ℕ) (r : ℕ) → Put f at us u w before now (own_piece (own_of us q) ++ after us q) → (r ≡ length (own_with f at u (own_of us q))) × (ys ≡ sets (rest now w) 0 (own_with f at u (own_of us q)))
          → Put f at us u (w + r) before (back now w ys) (left us (q + 1))
      unfolding left
      own_Put ys r a b =
          let d = own_of us q in
          let z : q + 1 ≡ suc q = omega arith in
          let k : u + length (words_in (own_piece d)) ≡ u = omega (arith, ap length (own_words_lem d)) in
          Put-as f at us (sym (ap (left us) z)) (Put-at f at us k (Put-more f at us (own_piece d) (after us q) (own_with f at u d) ys r a (sym (own_pool f at (at_first (words_of us)) u d)) b.0 b.1))

      -- the descriptor comes to lie at the pool pointer 1 + w
      own_place_lem : u ≡ body_use us q → Put f at us u w before now (own_piece (own_of us q) ++ after us q) → 1 + w ≡ own_place (at_first (words_of us)) 0 1 us q
      own_place_lem h a =
          let more = own_piece (own_of us q) ++ after us q in
          let z : 0 + body_use us q ≡ u = omega (arith, h) in
          omega (arith, Come-total us more a.come, after_size (at_first (words_of us)) us 0 1 q l, ap (λ (k : ℕ). pool_size (at_first (words_of us)) k more) z)

      pub own_pointer_lem : (b e : ℕ) → u ≡ body_use us q → Put f at us u w before now (own_piece (own_of us q) ++ after us q) → OwnLed pool other n u b (own_of us q) e → pointed_at b (1 + w) ≡ own_at us q
      unfolding pointed_at own_at own_pointer
      own_pointer_lem b e h a o = elim (below 0 b (omega arith)) [
        | inl y ↦ sym (is_eq b 0 0 (1 + w) (sym y) refl) ∙ sym (ap (own_pointer (own_place (at_first (words_of us)) 0 1 us q)) (o.absent (sym y)))
        | inr y ↦
            sym (no_eq b 0 0 (1 + w) (λ g. omega arith) refl) ∙ own_place_lem h a
            ∙ sym (ap (own_pointer (own_place (at_first (words_of us)) 0 1 us q)) (o.present (λ g. omega arith)).1)
      ]

  -- ---- the loop

  -- of the first q entries the descriptors, and all before them
  pub record Storing (q u w : ℕ) (before now owns : List ℕ) : Type 0 where
    pub few : q ≤ c
    pub long : row_limit ≡ length owns
    pub same : length now ≡ length before
    pub put : (us : List (Entry ℕ)) → Shown us → Put f at us u w before now (left us q)
    pub own : (us : List (Entry ℕ)) → Shown us → (i : ℕ) → i < q → get_or owns i 0 ≡ own_at us i

  -- and all before that of entry q
  pub record Midway (q u w : ℕ) (before now owns : List ℕ) : Type 0 where
    pub few : q < c
    pub long : row_limit ≡ length owns
    pub same : length now ≡ length before
    pub uses : (us : List (Entry ℕ)) → Shown us → u ≡ body_use us q
    pub put : (us : List (Entry ℕ)) → Shown us → Put f at us u w before now (own_piece (own_of us q) ++ after us q)
    pub own : (us : List (Entry ℕ)) → Shown us → (i : ℕ) → i < q → get_or owns i 0 ≡ own_at us i

  pub store_start : (l owns : List ℕ) → row_limit ≡ length owns → Storing 0 0 0 l l owns
  unfolding left
  store_start l owns h = record { few = omega arith; long = h; same = refl; put = λ us t. Put-start f at us l; own = λ us t i k. absurd (omega arith) }

  module _ (before : List ℕ) (z : TablesFit pool other n words places befores bodies m c (length before)) where
    abbrev one : List (Entry ℕ)
    one = z.entries

    module _ {q u w : ℕ} {now owns : List ℕ} where
      module _ (s : Storing q u w before now owns) where
        pub store_within : (w ≤ length now) × (w < file_limit)
        unfolding once_pool
        store_within = let b = Come-total one (left one q) (s.put one z.tabled).come in (omega (arith, z.room, s.same), omega (arith, z.small))

        pub store_low : q < c → q < row_limit
        store_low l = omega (arith, z.tabled.few)

        module _ (l : q < c) (e : ℕ) (h : e ≡ get_or befores q 0) where
          abbrev stands : (us : List (Entry ℕ)) → Shown us → e ≡ body_use us q
          stands us t = h ∙ t.standing q l

          pub uses_requires : Spelt pool other words e × ((1 + w ≤ file_limit) × (length (uses_with at spell (e - u) u (1 + w)) ≤ length (rest now w)))
          uses_requires =
              let t = z.tabled in
              let b = after_uses one q (omega (arith, t.entries)) in
              let r = uses_room one t q (omega (arith, t.entries)) e (stands one t) (s.put one t) in (
                record { many = omega (arith, t.known.many, t.uses, stands one t); each = λ k y. t.known.each k (omega (arith, t.uses, stands one t)) },
                (omega (arith, store_within.1), rw (length-rest now w) (omega (arith, z.room, s.same))),
              )

          pub uses_done : (ys : List ℕ) (r : ℕ) → (r ≡ length (uses_with at spell (e - u) u (1 + w))) × (ys ≡ sets (rest now w) 0 (uses_with at spell (e - u) u (1 + w))) → Midway q e (w + r) before (back now w ys) owns
          uses_done ys r b =
              let p : (us : List (Entry ℕ)) → Shown us → Put f at us e (w + r) before (back now w ys) (own_piece (own_of us q) ++ after us q) = λ us t. uses_Put us t q (omega (arith, t.entries)) e (stands us t) ys r (s.put us t) b in
              record { few = l; long = s.long; same = Put-kept f at one (p one z.tabled); uses = stands; put = p; own = s.own }

      module _ (s : Midway q u w before now owns) where
        pub mid_within : (w ≤ length now) × (w < file_limit)
        unfolding once_pool
        mid_within =
            let b = Come-total one (own_piece (own_of one q) ++ after one q) (s.put one z.tabled).come in
            (omega (arith, z.room, s.same), omega (arith, z.small))

        module _ (b : ℕ) (h : b ≡ get_or bodies q 0) where
          led : (us : List (Entry ℕ)) → Shown us → (e : ℕ) × OwnLed pool other n u b (own_of us q) e
          led us t = let o = t.owns q s.few in (o.0, rw (h, s.uses us t) o.1)

          pub own_requires : Room (OwnLed pool other n u b) own_body (length (rest now w))
          own_requires =
              let t = z.tabled in
              let r = own_room one t q (omega (arith, t.entries, s.few)) (s.put one t) in
              record { value = own_of one q; end = (led one t).0; shown = (led one t).1; room = rw (length-rest now w) (omega (arith, z.room, s.same)) }

          pub own_done : (y : ℕ) → y ≡ pointed_at b (1 + w) → (ys : List ℕ) (r : ℕ) → Wrote (OwnLed pool other n u b) (own_with f at u) (rest now w) r ys → Storing (q + 1) u (w + r) before (back now w ys) (set owns q y)
          own_done y g ys r o =
              let p : (us : List (Entry ℕ)) → Shown us → Put f at us u (w + r) before (back now w ys) (left us (q + 1)) = λ us t. own_Put us t q (omega (arith, t.entries, s.few)) ys r (s.put us t) (o.each (own_of us q) (led us t).0 (led us t).1) in
              record {
                few = omega (arith, s.few);
                long = simp length-set s.long;
                same = Put-kept f at one (p one z.tabled);
                put = p;
                own = λ us t i k. elim (below i q (omega arith)) [
                  | inl x ↦
                      rw x
                      (get_or-set_same owns q y 0 (omega (arith, s.long, s.few, z.tabled.few))
                      ∙ g ∙ own_pointer_lem us t q (omega (arith, t.entries, s.few)) b (led us t).0 (s.uses us t) (s.put us t) (led us t).1)
                  | inr x ↦ get_or-set_other owns q i y 0 (λ v. omega arith) ∙ s.own us t i x
                ];
              }

      -- after the last descriptor there are words
      module _ (s : Storing q u w before now owns) (l : c ≤ q) where
        last : (us : List (Entry ℕ)) → Shown us → Ending us q
        last us t = ending us q (omega (arith, t.entries, s.few))

        end_Put : (us : List (Entry ℕ)) (t : Shown us) → Put f at us u w before now (map word (last us t).words ++ [])
        end_Put us t = Put-as f at us (last us t).is (s.put us t)

        end_uses : (us : List (Entry ℕ)) (t : Shown us) → m ≡ u + length (last us t).words
        unfolding words_in
        end_uses us t =
            let ws = (last us t).words in
            omega (arith, t.uses, Come-uses us (map word ws ++ []) (end_Put us t).come, ap (λ (ps : List (Piece ℕ)). length (words_in ps)) (append-nil (map {B = Piece ℕ} word ws)), ap length (words_map ℕ ws))

        pub end_requires : Spelt pool other words m × ((1 + w ≤ file_limit) × (length (uses_with at spell (m - u) u (1 + w)) ≤ length (rest now w)))
        end_requires =
            let t = z.tabled in
            let r = words_room one t (last one t).words [] m (end_uses one t) (end_Put one t) in
            (t.known, (omega (arith, (store_within s).1), rw (length-rest now w) (omega (arith, z.room, s.same))))

        pub end_done : (ys : List ℕ) (r : ℕ) → (r ≡ length (uses_with at spell (m - u) u (1 + w))) × (ys ≡ sets (rest now w) 0 (uses_with at spell (m - u) u (1 + w))) → (us : List (Entry ℕ)) → Shown us → PutPool f at us c before (w + r) (back now w ys) owns
        unfolding once_pool pool_with pool_size
        end_done ys r b us t =
            let a = Put-words us t (last us t).words [] m (end_uses us t) ys r (end_Put us t) b in
            let d : pool_with f at (at_first (words_of us)) 0 (pieces_of us) ≡ a.done = a.bytes ∙ append-nil a.done in
            record {
              size = omega (arith, Come-total us [] a.come);
              stored = a.stored ∙ ap (sets before 0) (sym d);
              pointers = record { long = omega (arith, s.long, t.few); held = λ i k. s.own us t i (omega arith) };
            }

        pub end_kept : (ys : List ℕ) (r : ℕ) → (r ≡ length (uses_with at spell (m - u) u (1 + w))) × (ys ≡ sets (rest now w) 0 (uses_with at spell (m - u) u (1 + w))) → length (back now w ys) ≡ length before
        end_kept ys r b = let t = z.tabled in Put-kept f at one (Put-words one t (last one t).words [] m (end_uses one t) ys r (end_Put one t) b)
