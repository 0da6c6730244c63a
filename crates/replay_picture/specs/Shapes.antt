-- Rectangles and texts.
use Rattle.std.specs.Prelude.{ℕ, List, ◌++◌, codes, decimal}
use Rattle.replay_picture.specs.Escape.{escaped}
use Rattle.replay_picture.specs.declared.shapes.Rect.{Rect}

unfoldable pub rect_text : Rect → List ℕ
rect_text rect =
    codes "<rect x='" ++ decimal rect.x ++ codes "' y='" ++ decimal rect.y ++ codes "' width='" ++ decimal rect.width
    ++ codes "' height='" ++ decimal rect.height ++ codes "'/>"

-- what is shown while a pointer rests on what it stands in
unfoldable pub title_text : List ℕ → List ℕ
title_text title = codes "<title>" ++ escaped title ++ codes "</title>"

-- a text whose line stands at y
unfoldable pub words_text : ℕ → ℕ → List ℕ → List ℕ
words_text x y words =
    codes "<text x='" ++ decimal x ++ codes "' y='" ++ decimal y ++ codes "'>" ++ escaped words ++ codes "</text>"
