-- The bytes of a tree file: what an exporter writes. Of the encoding a reader has to believe only this: `Fields` and `decode`, which
-- read it, are shown to agree with it (`Accepted`).
use Rattle.std.specs.Prelude.{Bool, ◌&&◌, List, [], ◌∷◌, ◌++◌, ℕ, suc, ◌/◌, ◌%◌, ◌^◌, eqb, ltb}
use Rattle.tree.specs.Tree.{Place, Head, Forest, nil, node, Tree, one, count, records, size, all_heads}
use Rattle.tree.specs.Layout.{Version, v1, v2}

-- One record: a head, "4–5 children, 6–7 records in the subtree with itself".
pub record Rec : Type 0 where
  pub head : Head
  pub children : ℕ
  pub subtree : ℕ

-- "N records of 16 bytes, parent before children"
unfoldable pub preorder : Forest → List Rec
preorder nil = []
preorder (node h cs rest) =
    record { head = h; children = count cs; subtree = suc (records cs) } ∷ (preorder cs ++ preorder rest)

-- "multi-byte fields are little-endian"
abbrev pub le16 : ℕ → List ℕ → List ℕ
le16 n then = n % 256 ∷ n / 256 ∷ then

abbrev pub le32 : ℕ → List ℕ → List ℕ
le32 n then = le16 (n % 65536) (le16 (n / 65536) then)

-- "12–15 place"; 02, N6: "the last four the end"
abbrev pub place_bytes : Version → Place → List ℕ → List ℕ
place_bytes v1 p then = le32 p.start then
place_bytes v2 p then = le32 p.start (le32 p.end then)

-- "byte 0 kind, 1 facts, 2 sub, 3 zero, 4–5 children, 6–7 records in the subtree with itself, 8–11 text, 12–15 place"
abbrev pub record_bytes : Version → Rec → List ℕ → List ℕ
record_bytes v r then =
    r.head.kind ∷ r.head.facts ∷ r.head.sub ∷ r.head.reserved
    ∷ le16 r.children (le16 r.subtree (le32 r.head.text (place_bytes v r.head.place then)))

unfoldable pub bytes : Version → List Rec → List ℕ
bytes v [] = []
bytes v (r ∷ rs) = record_bytes v r (bytes v rs)

-- "3–4 version 1", or 2
abbrev pub version_number : Version → ℕ
version_number v1 = 1
version_number v2 = 2

-- "Bytes 0–2 `UXT`; 3–4 version 1; 5 settings (bit 0 annotations, 1 tree-shake-only, 2 derived); 6–7 record count N."
abbrev pub header : Version → ℕ → ℕ → List ℕ → List ℕ
header v settings n then = 85 ∷ 88 ∷ 84 ∷ le16 (version_number v) (settings ∷ le16 n then)

unfoldable pub file_bytes : Version → ℕ → Tree → List ℕ
file_bytes v settings t = header v settings (size t) (bytes v (preorder (one t)))

-- A place that fits its bytes, and a head whose fields all do. In version 1 an end is the start: no bytes say another.
unfoldable pub end_fits : Version → Place → Bool
end_fits v1 p = eqb p.end p.start
end_fits v2 p = ltb p.end (2 ^ 32)

unfoldable pub place_fits : Version → Place → Bool
place_fits v p = ltb p.start (2 ^ 32) && end_fits v p

unfoldable pub encodable : Version → Head → Bool
encodable v h =
    (ltb h.kind 256 && (ltb h.facts 256 && (ltb h.sub 256 && ltb h.reserved 256)))
    && (ltb h.text (2 ^ 32) && place_fits v h.place)

abbrev pub all_encodable : Version → Forest → Bool
all_encodable v f = all_heads (encodable v) f
